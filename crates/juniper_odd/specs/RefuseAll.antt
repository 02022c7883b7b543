-- What `RefuseAll` states of a token.
use Rattle.std.specs.Prelude.{Err, codes}
use Rattle.graphql_lexical.specs.declared.kind.Kind.{Kind}
use Rattle.juniper_tokens.specs.Errors.{ExpectedScalar}
use Rattle.juniper_values.specs.Text.{Text}
use Rattle.juniper_values.specs.Scalar.{Reading}

-- It reads no token of any kind.
abbrev pub refuse_all_reading : Kind → Text → Reading
refuse_all_reading kind t = Err (ExpectedScalar (codes "No literals"))
