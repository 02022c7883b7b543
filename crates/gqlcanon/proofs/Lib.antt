pub mod OneReport
