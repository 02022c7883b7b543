-- A source has few tokens or too many, and not both.
use Rattle.std.proofs.Common.{◌≡◌, ◌≢◌, ◌≤◌, ℕ, zero, suc, List, [], ◌∷◌, ◌⊎◌, length, inl, inr, refl, ap, ◌∙◌, subst, arith}
use Rattle.graphql_lexical.specs.Characters.{Text}
use Rattle.graphql_lexical.specs.Place.{Place, Span}
use Rattle.graphql_lexical.specs.declared.kind.Kind.TheVariants.{EndOfFile}
use Rattle.graphql_lexical.specs.Kinds.{LexicalError}
use Rattle.graphql_lexical.specs.Cutting.{Lexeme, Stands, Leads, CutAfter, BreaksAfter, none, more}
use Rattle.graphql_lexical.specs.Cutting as cutting
use Rattle.graphql_lexical.proofs.Public.{one_cut_or_break, one_token, token_or_error}
use Rattle.juniper_tokens.specs.Counting.{EndsAfter, HasFew, HasMore}

-- a text that ends here
pub few_here : (before left : Text) (most : ℕ) → EndsAfter before left → HasFew before left most
few_here before left most e = record {
  tokens = [];
  done = before;
  after = left;
  leads = none;
  ends = e;
  few = omega arith;
}

-- ---- one token on

module _ (before left : Text) (x : Lexeme) (done after : Text) (s : Stands before left x done after)
    (other : x.kind ≢ EndOfFile) where
  pub has_few_after : (most : ℕ) → HasFew done after most → HasFew before left (suc most)
  has_few_after most h = record {
    tokens = x ∷ h.tokens;
    done = h.done;
    after = h.after;
    leads = more s other h.leads;
    ends = h.ends;
    few = omega (arith, h.few);
  }

  pub has_more_after : (most : ℕ) (span : Span) → HasMore done after most span → HasMore before left (suc most) span
  has_more_after most span h = record {
    front = x ∷ h.front;
    done = h.done;
    rest = h.rest;
    leads = more s other h.leads;
    count = ap suc h.count;
    token = h.token;
    past = h.past;
    after = h.after;
    stands = h.stands;
    other = h.other;
    at = h.at;
  }

  -- the first token is one too many
  pub more_here : (span : Span) → span ≡ x.span → HasMore before left 0 span
  more_here span at = record {
    front = [];
    done = before;
    rest = left;
    leads = none;
    count = refl;
    token = x;
    past = done;
    after = after;
    stands = s;
    other = other;
    at = at;
  }

-- ---- one of both

abbrev pub FewOrMore : Text → Text → ℕ → Type 0
FewOrMore before left most = HasFew before left most ⊎ ((span : Span) × HasMore before left most span)

one_after : (before left : Text) (x : Lexeme) (done after : Text) (most : ℕ) → Stands before left x done after
    → x.kind ≢ EndOfFile → FewOrMore done after most → FewOrMore before left (suc most)
one_after before left x done after most s n (inl h) = inl (has_few_after before left x done after s n most h)
one_after before left x done after most s n (inr h) =
    inr (h.0, has_more_after before left x done after s n most h.0 h.1)

cut_counted : (most : ℕ) (before left : Text) (xs : List Lexeme) → CutAfter before left xs → FewOrMore before left most
cut_counted most before left _ (cutting.last {done = done} {after = after} {x = x} s e) =
    inl (few_here before left most (inl (x, done, after, s, e)))
cut_counted zero before left _ (cutting.token {done = done} {after = after} {x = x} s n c) =
    inr (x.span, more_here before left x done after s n x.span refl)
cut_counted (suc most) before left _ (cutting.token {done = done} {after = after} {x = x} {xs = xs} s n c) =
    one_after before left x done after most s n (cut_counted most done after xs c)

break_counted : (most : ℕ) (before left : Text) (error : LexicalError) (at : Place) → BreaksAfter before left error at
    → FewOrMore before left most
break_counted most before left error at (cutting.here b) = inl (few_here before left most (inr (error, at, b)))
break_counted zero before left error at (cutting.later {done = done} {after = after} {x = x} s n b) =
    inr (x.span, more_here before left x done after s n x.span refl)
break_counted (suc most) before left error at (cutting.later {done = done} {after = after} {x = x} s n b) =
    one_after before left x done after most s n (break_counted most done after error at b)

pub few_or_more : (source : Text) (most : ℕ) → FewOrMore [] source most
few_or_more source most = elim (one_cut_or_break source).some [
  | inl cut ↦ cut_counted most [] source cut.0 cut.1
  | inr broken ↦ break_counted most [] source broken.0 broken.1 broken.2
]

-- ---- not both

ends_there : (before left : Text) (x : Lexeme) (done after : Text) → EndsAfter before left → Stands before left x done after
    → x.kind ≢ EndOfFile → ⊥
ends_there before left x done after (inl (y, up_to, rest, t, e)) s other =
    other (ap (λ (z : Lexeme). z.kind) (one_token before left x y done after up_to rest s t).0 ∙ e)
ends_there before left x done after (inr (error, at, b)) s other = token_or_error before left x done after error at s b

-- from here on the tokens that lead to an end, and those that lead to one more
module _ (y : Lexeme) (past rest : Text) (other : y.kind ≢ EndOfFile) where
  not_both : (most : ℕ) (before left i a j b : Text) (xs ys : List Lexeme) → Leads before left xs i a → EndsAfter i a
      → length xs ≤ most → Leads before left ys j b → length ys ≡ most → Stands j b y past rest → ⊥
  not_both most before left _ _ _ _ _ _ none e few none count s = ends_there before left y past rest e s other
  not_both most before left _ _ _ _ _ _ none e few (more {done = done} {after = after} {x = z} t n r) count s =
      ends_there before left z done after e t n
  not_both most before left _ _ _ _ _ _ (more t n l) e few none count s = absurd (omega (arith, few, count))
  not_both zero before left _ _ _ _ _ _ (more t n l) e few (more u m r) count s = absurd (omega (arith, few))
  not_both (suc most) before left i a j b _ _ (more {done = done} {after = after} {x = x} {xs = xs} t n l) e few
      (more {done = up_to} {after = more_left} {x = z} {xs = ys} u m r) count s =
      let one = one_token before left z x up_to more_left done after u t in
      not_both most done after i a j b xs ys l e (omega (arith, few))
      (subst (λ (t : Text). Leads t after ys j b) one.1 (subst (λ (t : Text). Leads up_to t ys j b) one.2 r))
      (omega (arith, count)) s

pub few_not_more : (before left : Text) (most : ℕ) (span : Span) → HasFew before left most → HasMore before left most span
    → ⊥
few_not_more before left most span h g = not_both g.token g.past g.after g.other most before left h.done h.after g.done
    g.rest h.tokens g.front h.leads h.ends h.few g.leads g.count g.stands
