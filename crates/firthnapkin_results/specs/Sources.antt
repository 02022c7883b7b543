-- Bytes that a caller gives as a source, and why nothing is known of them.
use Rattle.std.specs.Prelude.{◌<◌, ◌≤◌, ◌^◌, ℕ, List, length, IsUtf8}
use Rattle.firthnapkin_results.specs.declared.source.Unread.{Unread}
use Rattle.firthnapkin_results.specs.declared.source.Unread.TheVariants as unread

-- why nothing is known of these bytes: they are not UTF-8, or there are too many, or they are UTF-8 and memory ran out
abbrev pub IsUnread : List ℕ → Unread → Type 0
IsUnread source unread.NotUtf8 = (length source < 2 ^ 32) × ¬ IsUtf8 source
IsUnread source unread.TooLong = 2 ^ 32 ≤ length source
IsUnread source unread.OutOfMemory = (length source < 2 ^ 32) × IsUtf8 source

-- what a call returns then
abbrev pub unread_status : Unread → ℕ
unread_status unread.NotUtf8 = 2
unread_status unread.TooLong = 7
unread_status unread.OutOfMemory = 3
