-- A scalar type that made no scalar of a token.
use Rattle.std.proofs.Common.{Err}
use Rattle.juniper_values.specs.Scalar.{Content, MeetsReading, Reading}
use Rattle.juniper_values.specs.declared.scalar.ReadFailure.{ReadFailure}
use Rattle.juniper_values.specs.declared.scalar.ReadFailure.TheVariants.{Refused, Memory}
use Rattle.juniper_parser.specs.Building.{FailsReading}

pub fails : {S : Type 0} (content : S → Content) (reading : Reading) (failure : ReadFailure)
    → MeetsReading content reading (Err failure) → FailsReading reading failure
fails content reading (Refused e) h = h
fails content reading Memory h = tt
