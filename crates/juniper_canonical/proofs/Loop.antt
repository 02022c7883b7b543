-- What the loop keeps: the canonical text of the tokens so far.
use Rattle.std.proofs.Common.{◌≡◌, ℕ, inr, Bool, true, false, not, ◌&&◌, ◌||◌, List, [], ◌∷◌, ◌++◌, refl, sym, ap, ap₂, ◌∙◌, subst, append_assoc, append-nil}
use Rattle.graphql_lexical.specs.declared.kind.Kind.{Kind}
use Rattle.graphql_lexical.specs.declared.kind.Kind.TheVariants.{EndOfFile, Ellipsis}
use Rattle.graphql_lexical.specs.Kinds.{is_fixed, same_kind}
use Rattle.juniper_canonical.specs.device.Parting.{is_after_space}
use Rattle.std.proofs.Common.{inl}
use Rattle.std.specs.Prelude.{Some, Result, Ok, Err, encode_utf8_all}
use Rattle.std.proofs.lemmas.Str.{encodes-append}
use Rattle.graphql_lexical.specs.Cutting.{Lexeme, none, BreaksThere, here, Breaks, Cut}
use Rattle.juniper_tokens.specs.declared.span.Spanning.{Spanning}
use Rattle.juniper_tokens.specs.declared.token.Token.{Token}
use Rattle.juniper_tokens.specs.Tokens.{view_token, token_kind}
use Rattle.juniper_tokens.specs.Lexing.{LexerState, started, passed, ahead, PassesToken, lexer_steps, GivesFault, GivesItem}
use Rattle.std.specs.Result.{IsErrAnd}
use Rattle.graphql_lexical.proofs.Public.{breaks_lead}
use Rattle.juniper_tokens.specs.declared.error.LexFailure.{LexFailure}
use Rattle.juniper_tokens.specs.declared.error.LexFailure.TheVariants as failures
use Rattle.juniper_tokens.specs.Errors.{view_lexer_error}
use Rattle.juniper_tokens.specs.Gathering.{IfFault}
use Rattle.juniper_tokens.proofs.Public.{Gathered, gathered_open, gathered_token}
use Rattle.graphql_lexical.specs.Canonical.{is_parted, space_if, canonical}
use Rattle.graphql_lexical.specs.Tokens.{written}

-- the kind of the last token, or of the end where there is none
abbrev pub last_kind : List Lexeme → Kind
last_kind [] = EndOfFile
last_kind (x ∷ []) = x.kind
last_kind (x ∷ y ∷ ys) = last_kind (y ∷ ys)

-- what one more token adds
abbrev pub added : Kind → Lexeme → List ℕ
added last x = space_if (is_parted last x.kind) ++ written x.kind x.text

pub canonical_more : (xs : List Lexeme) (x : Lexeme)
    → canonical (xs ++ x ∷ []) ≡ canonical xs ++ added (last_kind xs) x
canonical_more [] x = append-nil (written x.kind x.text)
canonical_more (y ∷ []) x =
    ap (λ (t : List ℕ). written y.kind y.text ++ (space_if (is_parted y.kind x.kind) ++ t)) (append-nil (written x.kind x.text))
    ∙ ap (λ (t : List ℕ). t ++ added y.kind x) (sym (append-nil (written y.kind y.text)))
canonical_more (y ∷ z ∷ zs) x =
    let more = canonical_more (z ∷ zs) x in
    let space : List ℕ = space_if (is_parted y.kind z.kind) in
    let tail : List ℕ = added (last_kind (z ∷ zs)) x in
    ap (λ (t : List ℕ). written y.kind y.text ++ (space ++ t)) more
    ∙ (ap (λ (t : List ℕ). written y.kind y.text ++ t) (sym (append_assoc space (canonical (z ∷ zs)) tail))
    ∙ sym (append_assoc (written y.kind y.text) (space ++ canonical (z ∷ zs)) tail))

pub last_more : (xs : List Lexeme) (x : Lexeme) → last_kind (xs ++ x ∷ []) ≡ x.kind
last_more [] x = refl
last_more (y ∷ []) x = refl
last_more (y ∷ z ∷ zs) x = last_more (z ∷ zs) x

-- the same, by what is remembered of the last
abbrev pub added_after : Bool → Lexeme → List ℕ
added_after is_bare x = space_if (is_after_space is_bare x.kind) ++ written x.kind x.text

either_way : (a b : Bool) → (b && a) ≡ (a && b)
either_way true true = refl
either_way true false = refl
either_way false true = refl
either_way false false = refl

added_same : (last : Kind) (x : Lexeme) → added_after (not (is_fixed last)) x ≡ added last x
added_same last x =
    ap (λ (parted : Bool). space_if parted ++ written x.kind x.text)
    (either_way (not (is_fixed last)) (not (is_fixed x.kind) || same_kind x.kind Ellipsis))

-- the lexer stands after these tokens, and their canonical text is written
pub record Kept (source : List ℕ) (t : LexerState) (text : List ℕ) (is_bare : Bool) : Type 0 where
  pub tokens : List Lexeme
  pub gathered : Gathered (started source) tokens t
  pub text_is : text ≡ encode_utf8_all (canonical tokens)
  pub bare_is : is_bare ≡ not (is_fixed (last_kind tokens))

pub kept_first : (source : List ℕ) → Kept source (started source) [] false
kept_first source = record { tokens = []; gathered = record { source = refl; tokens = inl (refl, none) }; text_is = refl; bare_is = refl }

pub kept_more : (source : List ℕ) (t u : LexerState) (text new : List ℕ) (is_bare : Bool) (token : Spanning Token)
    → Kept source t text is_bare → lexer_steps t (Some (Ok token)) u
    → new ≡ text ++ encode_utf8_all (added_after is_bare (view_token token))
    → Kept source u new (not (is_fixed (token_kind token.item)))
kept_more source t u text new is_bare token k h e =
    let x : Lexeme = view_token token in
    let open_yet = gathered_open (started source) k.tokens t k.gathered h.0 in
    let same : t.source ≡ source = k.gathered.source in
    record {
      tokens = k.tokens ++ x ∷ [];
      gathered = gathered_token (started source) k.tokens t u x open_yet (h.1 ∙ same)
          (subst (λ (s : List ℕ). PassesToken (record { source = s; index = t.index; ended = false }) x u.index) same h.2.stands) h.2.ends;
      text_is = e ∙ (ap₂ (λ (s : List ℕ) (b : Bool). s ++ encode_utf8_all (added_after b x)) k.text_is k.bare_is
          ∙ (ap (λ (t : List ℕ). encode_utf8_all (canonical k.tokens) ++ encode_utf8_all t) (added_same (last_kind k.tokens) x)
          ∙ (sym (encodes-append (canonical k.tokens) (added (last_kind k.tokens) x))
          ∙ ap encode_utf8_all (sym (canonical_more k.tokens x)))));
      bare_is = ap (λ (i : Kind). not (is_fixed i)) (sym (last_more k.tokens x));
    }

-- a fault after them is passed on
pub kept_fault : (source : List ℕ) (t u : LexerState) (text : List ℕ) (is_bare : Bool) {X : Type 0}
    (result : Result X LexFailure) (failure : LexFailure) → Kept source t text is_bare
    → lexer_steps t (Some (Err failure)) u → IsErrAnd result (λ x. x ≡ failure)
    → IfFault result (λ fault. Breaks source (view_lexer_error fault.item) fault.span.start)
kept_fault source t u text is_bare (Ok x) failure k h e = absurd e
kept_fault source t u text is_bare (Err failures.Memory) failure k h e = tt
kept_fault source t u text is_bare (Err (failures.Fault fault)) failure k h e =
    let gives : GivesFault t fault u = subst (λ (f : LexFailure). GivesItem t (Err f) u) (sym e) h.2 in
    let breaks : BreaksThere (passed source t.index) (ahead source t.index) (view_lexer_error fault.item) fault.span.start =
    subst (λ (s : List ℕ). BreaksThere (passed s t.index) (ahead s t.index) (view_lexer_error fault.item) fault.span.start)
    k.gathered.source gives.breaks in
    breaks_lead _ _ _ _ k.tokens _ _ (gathered_open (started source) k.tokens t k.gathered h.0) (here breaks)

-- where the lexer has ended, the source is cut into the tokens after which it stands
pub kept_cut : (source : List ℕ) (t : LexerState) (text : List ℕ) (is_bare : Bool) → Kept source t text is_bare
    → t.ended ≡ true → (tokens : List Lexeme) × Cut source tokens × (text ≡ encode_utf8_all (canonical tokens))
kept_cut source t text is_bare k e = elim k.gathered.tokens [
  | inl o ↦ absurd (cc)
  | inr d ↦ (k.tokens, d.1, k.text_is)
]
