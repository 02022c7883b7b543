-- Parts in a row, put together and taken apart.
use Rattle.std.proofs.Common.{◌≡◌, ◌<◌, ◌+◌, ◌∷◌, [], List, ◌++◌, length, refl, sym, ap, ap₂, ◌∙◌, arith, length-append, append_assoc, append-nil}
use Rattle.graphql_lexical.specs.declared.kind.Kind.{Kind}
use Rattle.graphql_lexical.specs.declared.kind.Kind.TheVariants.{Name}
use Rattle.graphql_lexical.specs.Cutting.{Lexeme, last_of}
use Rattle.graphql_lexical.proofs.Public.{last_next}
use Rattle.graphql_grammar.specs.Tokens.{Text, word_of, over, span_of}
use Rattle.graphql_lexical.specs.Parts.{◌·◌}
use Rattle.graphql_grammar.specs.Grammar.{Token, Is, IsWord, Says}

-- ---- one token

-- the one token of a list that is one of this kind
abbrev pub token_in : (kind : Kind) (ts : List Lexeme) → Is kind ts → Lexeme
token_in kind ts h = record { kind = kind; text = h.0; span = h.1 }

-- a token of this text
abbrev pub name_in : (text : Text) (ts : List Lexeme) → Says text ts → Lexeme
name_in text ts h = record { kind = Name; text = text; span = h.0 }

pub kind_is : (kind : Kind) (t : Lexeme) → t.kind ≡ kind → Is kind (t ∷ [])
kind_is kind t e = (t.text, t.span, ap (λ (k : Kind). record { kind = k; text = t.text; span = t.span } ∷ []) e)

pub token_is : (kind : Kind) (text : Text) (t : Lexeme) → t.kind ≡ kind → t.text ≡ text
    → Token kind text t.span (t ∷ [])
token_is kind text t e h = ap₂ (λ (k : Kind) (w : Text). record { kind = k; text = w; span = t.span } ∷ []) e h

pub word_is : (t : Lexeme) → t.kind ≡ Name → IsWord (word_of t) (t ∷ [])
word_is t e = token_is Name t.text t e refl

pub says_is : (text : Text) (t : Lexeme) → t.kind ≡ Name → t.text ≡ text → Says text (t ∷ [])
says_is text t e h = (t.span, token_is Name text t e h)

pub one_takes : (ts : List Lexeme) (t : Lexeme) → ts ≡ t ∷ [] → 0 < length ts
one_takes ts t e = rw e (omega arith)

pub is_takes : (kind : Kind) (ts : List Lexeme) → Is kind ts → 0 < length ts
is_takes kind ts h = one_takes ts _ h.2

pub says_takes : (text : Text) (ts : List Lexeme) → Says text ts → 0 < length ts
says_takes text ts h = one_takes ts _ h.1

-- ---- two parts

module _ {P Q : List Lexeme → Type 0} where
  pub row : (us vs : List Lexeme) → P us → Q vs → (P · Q) (us ++ vs)
  row us vs p q = record { front = us; back = vs; whole = refl; first = p; second = q }

  pub row_length : (ts : List Lexeme) (h : (P · Q) ts) → length ts ≡ length h.front + length h.back
  row_length ts h = ap length h.whole ∙ length-append h.front h.back

  pub front_takes : ((us : List Lexeme) → P us → 0 < length us) → (ts : List Lexeme) → (P · Q) ts → 0 < length ts
  front_takes f ts h = let p = f h.front h.first in omega (arith, row_length ts h)

  pub back_takes : ((us : List Lexeme) → Q us → 0 < length us) → (ts : List Lexeme) → (P · Q) ts → 0 < length ts
  back_takes f ts h = let p = f h.back h.second in omega (arith, row_length ts h)

  -- the first part begins the list, and others may follow
  pub row_before : (ts rest : List Lexeme) (h : (P · Q) ts) → ts ++ rest ≡ h.front ++ (h.back ++ rest)
  row_before ts rest h = ap (λ l. l ++ rest) h.whole ∙ append_assoc h.front h.back rest

-- an opening token, a part and a closing token
pub enclosed : {P : List Lexeme → Type 0} (opening closing : Kind) (o c : Lexeme) (us : List Lexeme)
    → o.kind ≡ opening → c.kind ≡ closing → P us → (Is opening · P · Is closing) (o ∷ us ++ (c ∷ []))
enclosed opening closing o c us a b h =
    row (o ∷ []) (us ++ (c ∷ [])) (kind_is opening o a) (row us (c ∷ []) h (kind_is closing c b))

-- The first two of three parts are a row, or the last two.
pub row_right : {P Q R : List Lexeme → Type 0} (ts : List Lexeme) → ((P · Q) · R) ts
    → (P · Q · R) ts
row_right ts h = record {
  front = h.first.front;
  back = h.first.back ++ h.back;
  whole = h.whole ∙ row_before h.front h.back h.first;
  first = h.first.first;
  second = row h.first.back h.back h.first.second h.second;
}

pub row_left : {P Q R : List Lexeme → Type 0} (ts : List Lexeme) → (P · Q · R) ts
    → ((P · Q) · R) ts
row_left ts h = record {
  front = h.front ++ h.second.front;
  back = h.second.back;
  whole = h.whole ∙ ap (λ l. h.front ++ l) h.second.whole ∙ sym (append_assoc h.front h.second.front h.second.back);
  first = row h.front h.second.front h.first h.second.first;
  second = h.second.second;
}

-- a part before a token
pub ended_is : {P : List Lexeme → Type 0} (kind : Kind) (ts : List Lexeme) (h : (P · Is kind) ts)
    → ts ≡ h.front ++ (token_in kind h.back h.second ∷ [])
ended_is kind ts h = h.whole ∙ ap (λ l. h.front ++ l) h.second.2

-- a part between two tokens
pub enclosed_is : {P : List Lexeme → Type 0} (opening closing : Kind) (ts : List Lexeme)
    (h : (Is opening · P · Is closing) ts)
    → ts ≡ token_in opening h.front h.first ∷ h.second.front ++ (token_in closing h.second.back h.second.second ∷ [])
enclosed_is opening closing ts h =
    h.whole ∙ ap₂ (λ us vs. us ++ vs) h.first.2 (ended_is closing h.back h.second)

-- the same parts, taken for others
pub row_as : {P Q P' Q' : List Lexeme → Type 0} {ts : List Lexeme} (h : (P · Q) ts) → P' h.front → Q' h.back
    → (P' · Q') ts
row_as h p q = record { front = h.front; back = h.back; whole = h.whole; first = p; second = q }

pub row_map : {P Q P' Q' : List Lexeme → Type 0} → ((us : List Lexeme) → P us → P' us)
    → ((us : List Lexeme) → Q us → Q' us) → (ts : List Lexeme) → (P · Q) ts → (P' · Q') ts
row_map f g ts h = row_as h (f h.front h.first) (g h.back h.second)

pub row_front : {P Q P' : List Lexeme → Type 0} → ((us : List Lexeme) → P us → P' us) → (ts : List Lexeme)
    → (P · Q) ts → (P' · Q) ts
row_front f ts h = row_map f (λ us q. q) ts h

pub row_back : {P Q Q' : List Lexeme → Type 0} → ((us : List Lexeme) → Q us → Q' us) → (ts : List Lexeme)
    → (P · Q) ts → (P · Q') ts
row_back g ts h = row_map (λ us p. p) g ts h

pub nothing_first : {P : List Lexeme → Type 0} (ts : List Lexeme) → ((λ us. us ≡ []) · P) ts → P ts
nothing_first ts h = rw (h.whole, h.first) h.second

pub nothing_last : {P : List Lexeme → Type 0} (ts : List Lexeme) → P ts → (P · (λ us. us ≡ [])) ts
nothing_last ts h = record { front = ts; back = []; whole = sym (append-nil ts); first = h; second = refl }

-- ---- spans

pub last_joined : (t u : Lexeme) (us vs : List Lexeme) → last_of t (us ++ (u ∷ vs)) ≡ last_of u vs
last_joined t u [] vs = last_next t u vs
last_joined t u (w ∷ us) vs = last_next t w (us ++ (u ∷ vs)) ∙ last_joined w u us vs

pub over_enclosed : (o c : Lexeme) (us : List Lexeme) → over o c ≡ span_of (o ∷ us ++ (c ∷ []))
over_enclosed o c us = ap (over o) (sym (last_joined o c us []))

pub enclosed_span : {P : List Lexeme → Type 0} (opening closing : Kind) (ts : List Lexeme)
    (h : (Is opening · P · Is closing) ts)
    → span_of ts ≡ over (token_in opening h.front h.first) (token_in closing h.second.back h.second.second)
enclosed_span opening closing ts h =
    ap span_of (enclosed_is opening closing ts h) ∙ sym (over_enclosed _ _ h.second.front)
