-- Lines as bytes.
use Rattle.std.proofs.Common.{◌≡◌, ℕ, ◌^◌, ◌<◌, List, [], ◌∷◌, ◌++◌, ◌∙◌, chars, IsUtf8, refl, sym, ap, lit<, rules}
use Rattle.std.specs.Fmt.{decimal}
use Rattle.std.specs.Str.{encode_utf8_all}
use Rattle.std.proofs.lemmas.Fmt.{IsAscii-decimal}
use Rattle.std.proofs.lemmas.Str.{encodes-chars, encodes-append, encodes-IsAscii, encode_ascii}
use lib.Utf8.{encode}
use Rattle.graphql_nodes.specs.Kinds.{kind_name}
use Rattle.graphql_nodes.specs.declared.kind.NodeKind.{NodeKind}
use Rattle.graphql_nodes.specs.declared.kind.NodeKind.TheVariants as kind
use Rattle.gqlcheck_report.specs.Lines.{place_text}
use Rattle.gqlcheck_report.proofs.Growth.{grown}

decimal_bytes : (n : ℕ) → n < 2 ^ 64 → encode_utf8_all (decimal n) ≡ decimal n
decimal_bytes n h = encodes-IsAscii (decimal n) (IsAscii-decimal n h)

kind_bytes : (kind : NodeKind) → encode_utf8_all (kind_name kind) ≡ kind_name kind
unfolding encode
kind_bytes kind.Query = refl
kind_bytes kind.Mutation = refl
kind_bytes kind.Subscription = refl
kind_bytes kind.FragmentDefinition = refl
kind_bytes kind.VariableDefinitions = refl
kind_bytes kind.VariableDefinition = refl
kind_bytes kind.Type = refl
kind_bytes kind.Field = refl
kind_bytes kind.Alias = refl
kind_bytes kind.FragmentSpread = refl
kind_bytes kind.InlineFragment = refl
kind_bytes kind.Directive = refl
kind_bytes kind.Arguments = refl
kind_bytes kind.Argument = refl
kind_bytes kind.Null = refl
kind_bytes kind.Scalar = refl
kind_bytes kind.Enum = refl
kind_bytes kind.Variable = refl
kind_bytes kind.List = refl
kind_bytes kind.Object = refl
kind_bytes kind.ObjectField = refl

pub place-bytes : (kind : NodeKind) (start end : ℕ) → start < 2 ^ 64 → end < 2 ^ 64
    → encode_utf8_all (place_text kind start end) ≡ kind_name kind ++ (32 ∷ (decimal start ++ (32 ∷ decimal end)))
unfolding place_text
place-bytes kind start end s e =
    simp (encodes-append, kind_bytes kind, decimal_bytes start s, decimal_bytes end e, encode_ascii 32 (lit< tt))

-- a text after a space
pub after_space : (text bytes : List ℕ) → encode_utf8_all text ≡ bytes → encode_utf8_all (32 ∷ text) ≡ 32 ∷ bytes
after_space text bytes e = simp (encode_ascii 32 (lit< tt), e)

pub name-bytes : (a : List ℕ) → IsUtf8 a → encode_utf8_all (32 ∷ chars a) ≡ 32 ∷ a
name-bytes a p = after_space (chars a) a (encodes-chars a p)

line_feed : (old new : List ℕ) → new ≡ old ++ (10 ∷ []) → new ≡ old ++ encode_utf8_all (10 ∷ [])
line_feed old new e = e ∙ ap (λ bs. old ++ bs) (sym (encodes-IsAscii (10 ∷ []) (search rules)))

-- bytes that grow by two texts and a line feed
pub line_grown : (old mid end new xs ys : List ℕ)
    → mid ≡ old ++ encode_utf8_all xs → end ≡ mid ++ encode_utf8_all ys → new ≡ end ++ (10 ∷ [])
    → new ≡ old ++ encode_utf8_all (xs ++ (ys ++ (10 ∷ [])))
line_grown old mid end new xs ys p q r =
    grown old mid new xs (ys ++ (10 ∷ [])) p (grown mid end new ys (10 ∷ []) q (line_feed end new r))
