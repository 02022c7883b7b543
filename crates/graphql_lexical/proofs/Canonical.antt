-- The canonical text of a source is cut into tokens alike with the source's.
use Rattle.std.proofs.Common.{◌≡◌, ℕ, ◌+◌, ◌⊎◌, inl, inr, Bool, true, false, not, ◌&&◌, ◌||◌, List, [], ◌∷◌, ◌++◌, take, drop, Result, Ok, IsTrue, refl, sym, ap, ap₂, ◌∙◌, subst}
use Rattle.std.specs.List.{AllZip}
use Rattle.std.specs.Option.{is_some}
use Rattle.graphql_lexical.specs.Kinds.{Kind, Name, Ellipsis, EndOfFile, Spelling, Fixed, NoText, spelling, fixed_text, is_fixed, same_kind}
use Rattle.graphql_lexical.specs.Tokens.{Spells, quotes, written}
use Rattle.graphql_lexical.specs.device.Whole.{Admits, IsToken, between, text_of}
use Rattle.graphql_lexical.specs.device.Indexed.{ReadsAt, CutFrom}
use Rattle.graphql_lexical.specs.Cutting.{Lexeme, Cut}
use Rattle.graphql_lexical.specs.Canonical.{is_parted, space_if, parting, canonical}
use Rattle.graphql_lexical.specs.device.Scan.{Broken}
use Rattle.graphql_lexical.specs.laws.Alike.{Alike}
use Rattle.graphql_lexical.specs.laws.Joining.{BeginsApart}
use Rattle.graphql_lexical.specs.laws.Canonical.{KeepsTokens, TellsTokens, IsItsOwn}
use Rattle.graphql_lexical.proofs.SameKind.{kind_is}
use Rattle.graphql_lexical.proofs.Slices.{front_read}
use Rattle.graphql_lexical.proofs.Cuts.{cut_computes}
use Rattle.graphql_lexical.proofs.Writing.{nothing_cut, no_lexeme, lone_lexeme, token_cut, white_cut}
use Rattle.graphql_lexical.proofs.Wholes.{spells_token, token_spells}
use Rattle.graphql_lexical.proofs.Readings.{read_end, read_token}
use Rattle.graphql_lexical.proofs.CutByTexts.{by_places}

-- ---- tokens as they are written

-- What is written of a token spells it.
record IsSpelled (kind : Kind) (text : List ℕ) : Type 0 where
  spells : IsToken (written kind text) kind
  text_is : text ≡ text_of kind (written kind text)

read_spelled : (rest : List ℕ) (n : ℕ) (kind : Kind) (text : List ℕ) → ReadsAt rest n kind text → (kind ≡ EndOfFile → ⊥)
    → IsSpelled kind text
read_spelled [] n kind text r none = absurd (none (read_end n kind text r).1)
read_spelled (c ∷ cs) n kind text r none =
    let front = (front_read (c ∷ cs) n kind text r).front in
    let s = spells_token (take n (c ∷ cs)) kind text (read_token c cs n kind text r).1 in
    record {
      spells = subst (λ (t : List ℕ). IsToken t kind) front s.0;
      text_is = s.1 ∙ ap (text_of kind) front;
    }

pub no_text : (rest : List ℕ) (n : ℕ) (kind : Kind) (text : List ℕ) → ReadsAt rest n kind text → kind ≡ EndOfFile
    → text ≡ []
no_text [] n kind text r e = (read_end n kind text r).2
no_text (c ∷ cs) n kind text r e =
    absurd (subst (λ (k : Kind). Spells (take n (c ∷ cs)) k text) e (read_token c cs n kind text r).1)

-- ---- what may stand after a token

fixed_begins : (kind : Kind) (c : ℕ) → spelling kind ≡ Fixed (c ∷ []) → IsTrue (is_fixed kind) → (whole rest : List ℕ)
    → IsToken whole kind → BeginsApart (whole ++ rest)
fixed_begins kind c e f whole rest s =
    let is : whole ≡ c ∷ [] = subst (λ w. Admits w whole) e s in
    subst (λ (t : List ℕ). BeginsApart (t ++ rest)) (sym is) (inr (kind, f, token_spells (c ∷ []) kind (c ∷ []) (subst (λ (t : List ℕ). IsToken t kind) is s) (sym (ap (λ w. between (quotes w) (c ∷ [])) e))))

-- whether what has a fixed text is spelled by one character
fixed_is_lone : Spelling → Bool
fixed_is_lone (Fixed []) = false
fixed_is_lone (Fixed (c ∷ d ∷ cs)) = false
fixed_is_lone _ = true

-- each punctuator but `...` is one character
lone_or_dots : (kind : Kind) → IsTrue (fixed_is_lone (spelling kind) || same_kind kind Ellipsis)
unfolding fixed_is_lone
lone_or_dots Name = refl
lone_or_dots _ = refl

-- each punctuator but `...` stands apart
begins_or_dots : (kind : Kind) (whole rest : List ℕ) → IsTrue (is_fixed kind) → IsToken whole kind
    → BeginsApart (whole ++ rest) ⊎ (kind ≡ Ellipsis)
unfolding fixed_is_lone
begins_or_dots kind whole rest f s = by_spelling (spelling kind) refl (lone_or_dots kind) f s
  where
    by_spelling : (w : Spelling) → spelling kind ≡ w → IsTrue (fixed_is_lone w || same_kind kind Ellipsis)
        → IsTrue (is_some (fixed_text w)) → Admits w whole → BeginsApart (whole ++ rest) ⊎ (kind ≡ Ellipsis)
    by_spelling (Fixed []) e h g a = inr (kind_is kind Ellipsis h)
    by_spelling (Fixed (c ∷ [])) e h g a = inl (fixed_begins kind c e f whole rest s)
    by_spelling (Fixed (c ∷ d ∷ cs)) e h g a = inr (kind_is kind Ellipsis h)
    by_spelling NoText e h g a = absurd a
    by_spelling _ e h g a = absurd cc

-- after a token that is no punctuator stands a space, a punctuator of one character, or nothing
open_parting : (source : List ℕ) (kind : Kind) (xs : List Lexeme) (k : ℕ) → is_fixed kind ≡ false → CutFrom source k xs
    → BeginsApart (parting kind xs ++ canonical xs)
open_parting source kind [] k o c = absurd c
open_parting source kind (x ∷ xs) k o (n, s, rest) =
    by_parted (is_parted kind x.kind) refl
  where
    rest_is : List ℕ
    rest_is = canonical (x ∷ xs)

    -- not parted: the next token is a punctuator of one character, or the end
    unparted : (b d : Bool) → is_fixed x.kind ≡ b → same_kind x.kind Ellipsis ≡ d → (not b || d) ≡ false
        → (((x.kind ≡ EndOfFile) × (xs ≡ [])) ⊎ ((x.kind ≡ EndOfFile → ⊥) × CutFrom source n xs))
        → BeginsApart (canonical (x ∷ xs))
    unparted false d e f g h = absurd cc
    unparted true true e f g h = absurd cc
    unparted true false e f g (inl (end, none)) =
        let text = no_text (drop (k + s.ignored) source) s.size x.kind x.text s.reads end in
        let empty : canonical (x ∷ xs) ≡ [] =
        ap (λ (ys : List Lexeme). written x.kind x.text ++ (parting x.kind ys ++ canonical ys)) none
        ∙ ap₂ (λ (i : Kind) (t : List ℕ). written i t ++ []) end text in
        subst BeginsApart (sym empty) tt
    unparted true false e f g (inr (no_end, c)) =
        let spelled = read_spelled (drop (k + s.ignored) source) s.size x.kind x.text s.reads no_end in
        elim (begins_or_dots x.kind (written x.kind x.text) (parting x.kind xs ++ canonical xs) e spelled.spells) [
          | inl a ↦ a
          | inr dots ↦ absurd (let z = ap (λ (i : Kind). same_kind i Ellipsis) dots in cc)
        ]

    by_parted : (b : Bool) → is_parted kind x.kind ≡ b → BeginsApart (space_if b ++ canonical (x ∷ xs))
    by_parted true e = inl refl
    by_parted false e =
        unparted (is_fixed x.kind) (same_kind x.kind Ellipsis) refl refl
        (sym (ap (λ (b : Bool). not b && (not (is_fixed x.kind) || same_kind x.kind Ellipsis)) o) ∙ e) rest

may_follow : (source : List ℕ) (kind : Kind) (xs : List Lexeme) (k : ℕ) → CutFrom source k xs
    → IsTrue (is_fixed kind) ⊎ BeginsApart (parting kind xs ++ canonical xs)
may_follow source kind xs k c = by_kind (is_fixed kind) refl
  where
    by_kind : (b : Bool) → is_fixed kind ≡ b → IsTrue (is_fixed kind) ⊎ BeginsApart (parting kind xs ++ canonical xs)
    by_kind true e = inl e
    by_kind false e = inr (open_parting source kind xs k e c)

-- ---- lists that are alike

pub alike_trans : (xs ys zs : List Lexeme) → AllZip Alike xs ys → AllZip Alike ys zs → AllZip Alike xs zs
alike_trans [] [] [] a b = tt
alike_trans (x ∷ xs) (y ∷ ys) (z ∷ zs) a b =
    (record { kind = a.0.kind ∙ b.0.kind; text = a.0.text ∙ b.0.text }, alike_trans xs ys zs a.1 b.1)
alike_trans [] [] (z ∷ zs) a b = absurd b
alike_trans [] (y ∷ ys) zs a b = absurd a
alike_trans (x ∷ xs) [] zs a b = absurd a
alike_trans (x ∷ xs) (y ∷ ys) [] a b = absurd b

pub alike_sym : (xs ys : List Lexeme) → AllZip Alike xs ys → AllZip Alike ys xs
alike_sym [] [] a = tt
alike_sym (x ∷ xs) (y ∷ ys) a = (record { kind = sym a.0.kind; text = sym a.0.text }, alike_sym xs ys a.1)
alike_sym [] (y ∷ ys) a = absurd a
alike_sym (x ∷ xs) [] a = absurd a

-- ---- the tokens are kept

space_cut : (b : Bool) (rest : List ℕ) (us : List Lexeme) → Cut rest us
    → (vs : List Lexeme) × Cut (space_if b ++ rest) vs × AllZip Alike vs us
space_cut true rest us c = white_cut 32 rest us refl c
space_cut false rest us c = (us, c, alike_self us)
  where
    alike_self : (xs : List Lexeme) → AllZip Alike xs xs
    alike_self [] = tt
    alike_self (x ∷ xs) = (record { kind = refl; text = refl }, alike_self xs)

parted_cut : (kind : Kind) (xs us : List Lexeme) → Cut (canonical xs) us
    → (vs : List Lexeme) × Cut (parting kind xs ++ canonical xs) vs × AllZip Alike vs us
parted_cut kind [] us c = space_cut false [] us c
parted_cut kind (x ∷ xs) us c = space_cut (is_parted kind x.kind) (canonical (x ∷ xs)) us c

keeps_from : (source : List ℕ) (xs : List Lexeme) (k : ℕ) → CutFrom source k xs
    → (ys : List Lexeme) × Cut (canonical xs) ys × AllZip Alike ys xs
keeps_from source [] k c = absurd c
keeps_from source (x ∷ xs) k (n, s, inl (end, none)) =
    let text = no_text (drop (k + s.ignored) source) s.size x.kind x.text s.reads end in
    let empty : canonical (x ∷ xs) ≡ [] =
    ap (λ (ys : List Lexeme). written x.kind x.text ++ (parting x.kind ys ++ canonical ys)) none
    ∙ ap₂ (λ (i : Kind) (t : List ℕ). written i t ++ []) end text in (
      no_lexeme ∷ [],
      subst (λ (t : List ℕ). Cut t (no_lexeme ∷ [])) (sym empty) nothing_cut,
      subst (λ (ys : List Lexeme). AllZip Alike (no_lexeme ∷ []) (x ∷ ys)) (sym none)
          (record { kind = sym end; text = sym text }, tt),
    )
keeps_from source (x ∷ xs) k (n, s, inr (no_end, c)) =
    let more = keeps_from source xs n c in
    let spelled = read_spelled (drop (k + s.ignored) source) s.size x.kind x.text s.reads no_end in
    let parted = parted_cut x.kind xs more.0 more.1 in
    let whole = token_cut (written x.kind x.text) x.kind (parting x.kind xs ++ canonical xs) parted.0 spelled.spells
    (may_follow source x.kind xs n c) parted.1 in (
      lone_lexeme (written x.kind x.text) x.kind ∷ whole.0,
      whole.1,
      (
        record { kind = refl; text = sym spelled.text_is },
        alike_trans whole.0 parted.0 xs whole.2 (alike_trans parted.0 more.0 xs parted.2 more.2),
      ),
    )

pub keeps_tokens : (source : List ℕ) → KeepsTokens source
keeps_tokens source xs c = keeps_from source xs 0 (by_places source xs c)

-- ---- alike tokens have one canonical text

same_parting : (i j : Kind) (xs ys : List Lexeme) → i ≡ j → AllZip Alike xs ys → parting i xs ≡ parting j ys
same_parting i j [] [] e a = refl
same_parting i j (x ∷ xs) (y ∷ ys) e a = ap₂ (λ (p q : Kind). space_if (is_parted p q)) e a.0.kind
same_parting i j [] (y ∷ ys) e a = absurd a
same_parting i j (x ∷ xs) [] e a = absurd a

pub same_canonical : (xs ys : List Lexeme) → AllZip Alike xs ys → canonical xs ≡ canonical ys
same_canonical [] [] a = refl
same_canonical (x ∷ xs) (y ∷ ys) a =
    let parts : parting x.kind xs ≡ parting y.kind ys = same_parting x.kind y.kind xs ys a.0.kind a.1 in
    ap₂ (λ (s t : List ℕ). s ++ t) (ap₂ written a.0.kind a.0.text)
    (ap₂ (λ (s t : List ℕ). s ++ t) parts (same_canonical xs ys a.1))
same_canonical [] (y ∷ ys) a = absurd a
same_canonical (x ∷ xs) [] a = absurd a

only_cut : (source : List ℕ) (xs ys : List Lexeme) → Cut source xs → Cut source ys → xs ≡ ys
only_cut source xs ys a b = same_list xs ys (sym (cut_computes source xs a) ∙ cut_computes source ys b)
  where
    same_list : (x y : List Lexeme) → ◌≡◌ {A = Result (List Lexeme) Broken} (Ok x) (Ok y) → x ≡ y
    same_list x y e = cc

same_tokens : (a b : List ℕ) (xs ys : List Lexeme) → Cut a xs → Cut b ys → canonical xs ≡ canonical ys → AllZip Alike xs ys
same_tokens a b xs ys c d e =
    let k = keeps_tokens a xs c in
    let l = keeps_tokens b ys d in
    let same : k.0 ≡ l.0 = only_cut (canonical ys) k.0 l.0 (subst (λ (t : List ℕ). Cut t k.0) e k.1) l.1 in
    alike_trans xs k.0 ys (alike_sym k.0 xs k.2) (subst (λ (z : List Lexeme). AllZip Alike z ys) (sym same) l.2)

pub tells_tokens : (a b : List ℕ) → TellsTokens a b
tells_tokens a b xs ys c d = (same_tokens a b xs ys c d, same_canonical xs ys)

pub is_its_own : (source : List ℕ) → IsItsOwn source
is_its_own source xs ys c d =
    let k = keeps_tokens source xs c in
    let same : ys ≡ k.0 = only_cut (canonical xs) ys k.0 d k.1 in
    same_canonical ys xs (subst (λ (z : List Lexeme). AllZip Alike z xs) (sym same) k.2)
