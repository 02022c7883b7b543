-- What a scalar's content means is no longer, in bytes, than the text that it is read from.
use Rattle.std.proofs.Common.{◌≡◌, ◌≤◌, Bool, true, false, Option, Some, None, Ok, Err, List, [], inl, inr, refl, sym, ap, ◌∙◌, subst, arith}
use Rattle.std.specs.Prelude.{ℤ, if◌then◌else◌}
use Rattle.std.specs.Option.{unwrap_or}
use Rattle.graphql_lexical.specs.declared.kind.Kind.{Kind}
use Rattle.graphql_lexical.specs.declared.kind.Kind.TheVariants.{String, BlockString, Float, Int}
use Rattle.graphql_grammar.specs.Grammar.{IsScalarKind}
use Rattle.juniper_tokens.specs.Errors.{unexpected}
use Rattle.juniper_values.specs.Text.{Text}
use Rattle.juniper_values.specs.Scalar.{Content, integer, text, boolean, custom, Reading}
use Rattle.juniper_values.specs.Default as default
use Rattle.juniper_values.specs.Default.{default_reading}
use Rattle.juniper_nodes.specs.Literal.{string_reading, str_in, of_block}
use Rattle.juniper_nodes.proofs.Literals.{shown_after}
use Rattle.juniper_nodes.proofs.TextLengths.{size, string_is_short, block_is_short}

-- what the content means is no longer than the text
abbrev pub IsShort : Text → Content → Type 0
IsShort t content = size (unwrap_or (str_in content) []) ≤ size t

-- so is what this reading of the text makes of it, if anything
abbrev pub MakesShort : Text → Reading → Type 0
MakesShort t reading = (c : Content) → reading ≡ Ok c → IsShort t c

-- so is what a scalar type makes of each of its tokens
abbrev pub ReadsShort : (Kind → Text → Reading) → Type 0
ReadsShort reading = (k : Kind) (t : Text) → IsScalarKind k → MakesShort t (reading k t)

-- a content that has no text
pub without_text : (t : Text) (b : Content) → str_in b ≡ None → MakesShort t (Ok b)
without_text t b none c e =
    let same : b ≡ c = cc in
    let empty : unwrap_or (str_in b) [] ≡ [] = ap (λ m. unwrap_or m []) none in
    subst (IsShort t) same (omega (arith, ap size empty))

-- a string's content that has the text of another reading
pub string_kept : (t : Text) (of : Text → Content) → ((u : Text) → str_in (of u) ≡ Some u)
    → (r : Reading) → MakesShort t r → MakesShort t (string_reading of r)
string_kept t of means (Ok (text u)) short c e =
    let same : of u ≡ c = cc in
    let meant : unwrap_or (str_in (of u)) [] ≡ u = ap (λ m. unwrap_or m []) (means u) in
    subst (IsShort t) same (omega (arith, ap size meant, short (text u) refl))
string_kept t of means (Ok (integer n)) short c e = short c e
string_kept t of means (Ok (boolean b)) short c e = short c e
string_kept t of means (Ok (custom ns)) short c e = short c e
string_kept t of means (Err f) short c e = short c e

pub of_block_means : (t u : Text) → str_in (of_block t u) ≡ Some u
of_block_means t u = ap (λ v. Some v) (shown_after t u)

-- ---- what the default type reads

string_is_text : (t : Text) (u : Option Text) (ns : List ℤ) → default.string_reading t u ≡ Ok (custom ns) → ⊥
string_is_text t None ns e = absurd (cc)
string_is_text t (Some u) ns e = absurd (cc)

string_by_default : (t : Text) → MakesShort t (default_reading String t)
string_by_default t (integer n) e = omega arith
string_by_default t (text u) e = string_is_short t u e
string_by_default t (boolean b) e = omega arith
string_by_default t (custom ns) e = absurd (string_is_text t _ ns e)

block_by_default : (t : Text) → MakesShort t (default_reading BlockString t)
block_by_default t (integer n) e = omega arith
block_by_default t (text u) e = block_is_short t u e
block_by_default t (boolean b) e = omega arith
block_by_default t (custom ns) e = absurd (cc)

int_by_test : (b : Bool) (n : ℤ) (t : Text) → MakesShort t (if b then Ok (integer n) else unexpected Int t)
int_by_test true n t c e = without_text t (integer n) refl c e
int_by_test false n t c e = absurd (cc)

pub default_is_short : ReadsShort default_reading
default_is_short k t (inl s) c e = string_by_default t c (ap (λ k. default_reading k t) (sym s) ∙ e)
default_is_short k t (inr (inl s)) c e = block_by_default t c (ap (λ k. default_reading k t) (sym s) ∙ e)
default_is_short k t (inr (inr (inl s))) c e =
    let read : default_reading Float t ≡ Ok c = ap (λ k. default_reading k t) (sym s) ∙ e in absurd (cc)
default_is_short k t (inr (inr (inr s))) c e = int_by_test _ _ t c (ap (λ k. default_reading k t) (sym s) ∙ e)
