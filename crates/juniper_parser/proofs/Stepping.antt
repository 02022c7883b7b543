-- Readers of the grammar, in the steps of a cursor.
use Rattle.std.proofs.Common.{◌≡◌, Bool, true, false, cond, List, [], ◌∷◌, Ok, Err, refl, sym, ap, ◌∙◌}
use Rattle.graphql_lexical.specs.Place.{Span}
use Rattle.graphql_lexical.specs.declared.kind.Kind.{Kind}
use Rattle.graphql_lexical.specs.declared.kind.Kind.TheVariants.{EndOfFile}
use Rattle.graphql_lexical.specs.Kinds.{same_kind}
use Rattle.graphql_lexical.specs.Cutting.{Lexeme}
use Rattle.graphql_lexical.specs.Display.{shown}
use Rattle.graphql_grammar.specs.device.Faults as grammar
use Rattle.graphql_grammar.specs.Tokens.{span_of}
use Rattle.graphql_grammar.specs.device.Reading.{Test, of, passes, Took, Refused, Out, Reader, after, seq, done, on, want, refuse, fault_of, pick, look, choose, with_span, give_span, front}
use Rattle.graphql_grammar.specs.device.Reading as reading
use Rattle.graphql_grammar.proofs.Public.{of_kind}
use Rattle.juniper_tokens.specs.Errors.{Error, UnexpectedToken, UnexpectedEndOfFile}
use Rattle.juniper_tokens.specs.Cursor.{Read, ◌>>=◌, EndsOnce, first_of, next_at, refused_at, next_if}
use Rattle.juniper_parser.specs.device.Seen.{error_of, seen}

-- ---- steps in a row

pub bind_assoc : {A B C : Type 0} (r : Read A) (f : (A × List Lexeme) → Read B) (g : (B × List Lexeme) → Read C)
    → ((r >>= f) >>= g) ≡ (r >>= λ x. f x >>= g)
bind_assoc (Ok x) f g = refl
bind_assoc (Err e) f g = refl

pub bind_same : {A B : Type 0} (r : Read A) (f g : (A × List Lexeme) → Read B) → ((x : A × List Lexeme) → f x ≡ g x)
    → (r >>= f) ≡ (r >>= g)
bind_same (Ok x) f g h = h x
bind_same (Err e) f g h = refl

-- ---- readers in a row

seen_after : {A B : Type 0} (r : reading.Read Error A) (k : A → Reader Error B)
    → seen (after r k) ≡ (seen r >>= λ x. seen (k x.0 x.1))
seen_after (Took a rest) k = refl
seen_after (Refused [] x) k = refl
seen_after (Refused (t ∷ rest) x) k = refl
seen_after Out k = refl

pub seen_seq : {A B : Type 0} (f : Reader Error A) (k : A → Reader Error B) (ts : List Lexeme)
    → seen (seq f k ts) ≡ (seen (f ts) >>= λ x. seen (k x.0 x.1))
unfolding seq
seen_seq f k ts = seen_after (f ts) k

-- f is seen as r, and k of what it reads as l
pub seq_as : {A B : Type 0} (f : Reader Error A) (k : A → Reader Error B) (ts : List Lexeme) (r : Read A)
    (l : (A × List Lexeme) → Read B) → seen (f ts) ≡ r → ((x : A × List Lexeme) → seen (k x.0 x.1) ≡ l x)
    → seen (seq f k ts) ≡ (r >>= l)
seq_as f k ts r l e h = seen_seq f k ts ∙ ap (λ z. z >>= λ x. seen (k x.0 x.1)) e ∙ bind_same r _ l h

pub seen_took : {A : Type 0} (r : reading.Read Error A) (a : A) (rest : List Lexeme) → seen r ≡ Ok (a, rest)
    → r ≡ Took a rest
seen_took (Took b left) a rest e =
    let same : (b, left) ≡ (a, rest) = cc in
    ap (λ (x : _ × List Lexeme). Took x.0 x.1) same
seen_took (Refused [] x) a rest e = absurd (cc e)
seen_took (Refused (t ∷ ts) x) a rest e = absurd (cc e)
seen_took Out a rest e = absurd (cc e)

-- ---- single tokens

by_end : {A : Type 0} (t : Lexeme) (ts : List Lexeme) (b : Bool)
    → ◌≡◌ {A = Read A} (Err (
      record {
        error = error_of (cond b grammar.UnexpectedEndOfFile (grammar.UnexpectedToken t.kind t.text));
        span = t.span;
      },
      cond b (t ∷ ts) ts,
    ))
    (cond {A = Read Lexeme} b (Err (record { error = UnexpectedEndOfFile; span = t.span }, t ∷ ts)) (Ok (t, ts)) >>=
    λ x. Err (record { error = UnexpectedToken (shown x.0.kind x.0.text); span = x.0.span }, x.1))
by_end t ts true = refl
by_end t ts false = refl

pub seen_refuse : {A : Type 0} (ts : List Lexeme) → seen (refuse {A = A} ts) ≡ refused_at ts
unfolding refuse fault_of
seen_refuse [] = refl
seen_refuse {A} (t ∷ ts) = by_end t ts (same_kind t.kind EndOfFile)

pub taken : (t : Lexeme) (ts : List Lexeme) → same_kind t.kind EndOfFile ≡ false → Ok (t, ts) ≡ next_at (t ∷ ts)
taken t ts e = ap (λ (b : Bool). cond {A = Read Lexeme} b (Err
    (record { error = UnexpectedEndOfFile; span = t.span }, t ∷ ts)) (Ok (t, ts))) (sym e)

-- No token that passes is the end.
abbrev pub PassesNoEnd : Test → Type 0
PassesNoEnd test = (t : Lexeme) → passes test t ≡ true → same_kind t.kind EndOfFile ≡ false

pub kind_no_end : (k : Kind) → same_kind k EndOfFile ≡ false → PassesNoEnd (of k)
kind_no_end k e t p = ap (λ (z : Kind). same_kind z EndOfFile) (of_kind k t p) ∙ e

wanted : (test : Test) (t : Lexeme) (ts : List Lexeme) (b : Bool) → PassesNoEnd test → passes test t ≡ b
    → seen (pick b done refuse t ts) ≡ next_if b (t ∷ ts)
unfolding done
wanted test t ts true e p = taken t ts (e t p)
wanted test t ts false e p = seen_refuse (t ∷ ts)

nothing_wanted : (b : Bool) → next_at [] ≡ next_if b []
nothing_wanted true = refl
nothing_wanted false = refl

pub seen_test : (test : Test) → PassesNoEnd test → (ts : List Lexeme)
    → seen (want test ts) ≡ next_if (passes test (first_of ts)) ts
unfolding want on refuse
seen_test test e [] = nothing_wanted (passes test (first_of []))
seen_test test e (t ∷ ts) = wanted test t ts (passes test t) e refl

chosen : {A : Type 0} (b : Bool) (f g : Reader Error A) (t : Lexeme) (ts : List Lexeme)
    → seen (choose b f g (t ∷ ts)) ≡ cond b (seen (f (t ∷ ts))) (seen (g (t ∷ ts)))
chosen true f g t ts = refl
chosen false f g t ts = refl

-- the same where a token stands next
pub look_ended : {A : Type 0} (test : Test) (f g : Reader Error A) (ts : List Lexeme) → EndsOnce ts
    → seen (look test f g ts) ≡ cond (passes test (first_of ts)) (seen (f ts)) (seen (g ts))
unfolding look
look_ended test f g [] e = absurd e
look_ended test f g (t ∷ ts) e = chosen (passes test t) f g t ts

-- ---- spans

spans_after : {A : Type 0} (ts : List Lexeme) (r : reading.Read Error (Span → A))
    → seen (after r (give_span ts)) ≡ (seen r >>= λ x. Ok (x.0 (span_of (front ts x.1)), x.1))
spans_after ts (Took a rest) = refl
spans_after ts (Refused [] x) = refl
spans_after ts (Refused (t ∷ rest) x) = refl
spans_after ts Out = refl

pub seen_span : {A : Type 0} (f : Reader Error (Span → A)) (ts : List Lexeme)
    → seen (with_span f ts) ≡ (seen (f ts) >>= λ x. Ok (x.0 (span_of (front ts x.1)), x.1))
unfolding with_span
seen_span f ts = spans_after ts (f ts)
