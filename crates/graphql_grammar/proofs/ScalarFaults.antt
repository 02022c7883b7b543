-- Where a scalar token is refused as such: what the reader says to an opening bracket in its place.
use Rattle.std.proofs.Common.{ℕ, zero, suc, Bool, true, false, ◌≡◌, ◌<◌, ◌∷◌, [], List, ◌++◌, length, refl, sym, ap, ◌∙◌, arith, append_assoc, subst, length-append, ◌⊎◌, inl, inr, Err}
use Rattle.graphql_lexical.specs.Place.{Span}
use Rattle.graphql_lexical.specs.declared.kind.Kind.{Kind}
use Rattle.graphql_lexical.specs.declared.kind.Kind.TheVariants.{BracketOpen, CurlyOpen}
use Rattle.graphql_lexical.specs.Cutting.{Lexeme}
use Rattle.graphql_grammar.specs.Tokens.{Text, span_of}
use Rattle.graphql_grammar.specs.device.Reading.{Test, passes, of, Read, Took, Refused, Out, Reader, after, seq, done, fault_of, refuse, pick, on, want, many, look, choose, with_span, give_span, front, maybe, one_or_more, repeated}
use Rattle.graphql_grammar.specs.Tree.{Scalars}
use Rattle.graphql_grammar.specs.Grammar.{IsScalarKind}
use Rattle.graphql_grammar.specs.device.Faults.{Fault, ScalarError}
use Rattle.graphql_grammar.proofs.TokenRules.{on_passed, on_failed}
use Rattle.graphql_grammar.proofs.PartRules.{front_is, span_took, span_refused}
use Rattle.graphql_grammar.proofs.Finds.{seq_took}
use Rattle.graphql_grammar.proofs.NoValues.{Exchange, Starts, Stops, NoValueAfter, exchanged, exchanged_some, exchanged_bracket, PassesNoValue, starts_value, no_value_by}

module _ {C F : Type 0} (S : Scalars C F) where
  abbrev pub IsScalarFault : Lexeme → Fault F → Type 0
  IsScalarFault t x = (y : F) × (x ≡ ScalarError y) × IsScalarKind t.kind × (S.read t.kind t.text ≡ Err y)

  abbrev pub TellsFault : {A : Type 0} → Bool → Reader F A → List Lexeme → Read F A → Type 0
  TellsFault b f ts (Took a rest) = (us : List Lexeme) × (ts ≡ us ++ rest)
      × ((other : List Lexeme) → Exchange rest other → f (us ++ other) ≡ Took a other)
  TellsFault b f ts (Refused [] x) = Unit {0}
  TellsFault b f ts (Refused (t ∷ rest) x) =
      (us : List Lexeme) × (ts ≡ us ++ (t ∷ rest))
      × (IsScalarFault t x ⊎ ((x ≡ fault_of t.kind t.text) × (IsScalarKind t.kind → NoValueAfter b f us)))
  TellsFault b f ts Out = Unit {0}

  pub record TellsFaults {A : Type 0} (b : Bool) (f : Reader F A) : Type 0 where
    pub at : (ts : List Lexeme) → TellsFault b f ts (f ts)

  -- A reader that goes as another does.
  pub same_tell : {A : Type 0} (b : Bool) (g h : Reader F A) (ts : List Lexeme) (r : Read F A)
      → ((other : List Lexeme) → Exchange ts other → h other ≡ g other)
      → (b ≡ false → (other : List Lexeme) → Starts CurlyOpen other → h other ≡ g other) → TellsFault b g ts r
      → TellsFault b h ts r
  same_tell b g h ts (Took a rest) x y (us, e, p) =
      (us, e, λ other q. x (us ++ other) (rw e (exchanged us rest other q)) ∙ p other q)
  same_tell b g h ts (Refused [] z) x y p = tt
  same_tell b g h ts (Refused (t ∷ rest) z) x y (us, e, inl o) = (us, e, inl o)
  same_tell {A} b g h ts (Refused (t ∷ rest) z) x y (us, e, inr (q, off)) = (us, e, inr (q, λ s. by_no_value s (off s)))
    where
      by_front : (b : Bool) (vs other : List Lexeme) → (b ≡ true → 0 < length vs) → Starts CurlyOpen other
          → ((o : List Lexeme) → Exchange (vs ++ (t ∷ rest)) o → h o ≡ g o)
          → (b ≡ false → (o : List Lexeme) → Starts CurlyOpen o → h o ≡ g o) → h (vs ++ other) ≡ g (vs ++ other)
      by_front true vs other n st x' y' = x' (vs ++ other) (exchanged_some vs (t ∷ rest) other (n refl))
      by_front false [] other n st x' y' = y' refl other st
      by_front false (v ∷ vs) other n st x' y' = x' (v ∷ vs ++ other) (inl refl)

      by_no_value : IsScalarKind t.kind → NoValueAfter b g us → NoValueAfter b h us
      by_no_value s (inl p) = inl (λ other st. (
        (p other st).0,
        x (us ++ other)
            (rw e (exchanged us (t ∷ rest) other (exchanged_bracket t rest other s st))) ∙ (p other st).1,
      ))
      by_no_value s (inr (n, p)) = inr (
        n,
        λ other st. (
          (p other st).0,
          by_front b us other n st (λ o c. x o (rw e c)) y ∙ (p other st).1,
        ),
      )
  same_tell b g h ts Out x y p = tt

  pub same_tells : {A : Type 0} (b : Bool) (g h : Reader F A) → ((ts : List Lexeme) → h ts ≡ g ts) → TellsFaults b g
      → TellsFaults b h
  same_tells b g h e r = record {
    at = λ ts. subst (λ z. TellsFault b h ts z) (sym (e ts))
        (same_tell b g h ts (g ts) (λ o x. e o) (λ q o s. e o) (r.at ts));
  }

  weak_tell : {A : Type 0} (f : Reader F A) (ts : List Lexeme) (r : Read F A) → TellsFault true f ts r
      → TellsFault false f ts r
  weak_tell f ts (Took a rest) p = p
  weak_tell f ts (Refused [] x) p = p
  weak_tell f ts (Refused (t ∷ rest) x) (us, e, inl o) = (us, e, inl o)
  weak_tell f ts (Refused (t ∷ rest) x) (us, e, inr (q, off)) = (us, e, inr (q, λ s. by_no_value (off s)))
    where
      by_no_value : NoValueAfter true f us → NoValueAfter false f us
      by_no_value (inl p) = inl p
      by_no_value (inr p) = inr ((λ c. absurd (cc c)), p.1)
  weak_tell f ts Out p = p

  pub weak : {A : Type 0} (f : Reader F A) → TellsFaults true f → TellsFaults false f
  weak f r = record { at = λ ts. weak_tell f ts (f ts) (r.at ts) }

  pub done_tells : {A : Type 0} (b : Bool) (a : A) → TellsFaults b (done a)
  unfolding done
  done_tells b a = record { at = λ ts. ([], refl, λ other x. refl) }

  refuse_stops : {A : Type 0} (k : Kind) (rest : List Lexeme) → Starts k rest → Stops {F = F} {A = A} refuse [] rest
  unfolding refuse
  refuse_stops k [] s = absurd s
  refuse_stops k (t ∷ ts) s = (fault_of t.kind t.text, refl)

  refuse_tell : (A : Type 0) (b : Bool) (ts : List Lexeme) → TellsFault {A = A} b refuse ts (refuse ts)
  unfolding refuse
  refuse_tell A b [] = tt
  refuse_tell A b (t ∷ ts) = ([], refl, inr (refl, λ s. inl (λ rest st. refuse_stops BracketOpen rest st)))

  pub refuse_tells : {A : Type 0} (b : Bool) → TellsFaults {A = A} b refuse
  refuse_tells {A} b = record { at = λ ts. refuse_tell A b ts }

  -- seq
  seq_refused : {A B : Type 0} (f : Reader F A) (k : A → Reader F B) (ts rest : List Lexeme) (x : Fault F)
      → f ts ≡ Refused rest x → seq f k ts ≡ Refused rest x
  unfolding seq
  seq_refused f k ts rest x e = ap (λ r. after r k) e

  module _ {A B : Type 0} (b : Bool) (f : Reader F A) (k : A → Reader F B) where
    goes : (us vs mid last other : List Lexeme) (a : A) → mid ≡ vs ++ last → Exchange (vs ++ last) (vs ++ other)
        → ((o : List Lexeme) → Exchange mid o → f (us ++ o) ≡ Took a o)
        → seq f k ((us ++ vs) ++ other) ≡ k a (vs ++ other)
    goes us vs mid last other a q x h = ap (seq f k) (append_assoc us vs other)
        ∙ seq_took f k (us ++ (vs ++ other)) (vs ++ other) a (h (vs ++ other) (rw q x))

    second : (ts us mid : List Lexeme) (a : A) → ts ≡ us ++ mid
        → ((o : List Lexeme) → Exchange mid o → f (us ++ o) ≡ Took a o) → (r : Read F B) → TellsFault true (k a) mid r
        → TellsFault b (seq f k) ts r
    second ts us mid a e h (Took y last) (vs, q, g) = (
      us ++ vs,
      e ∙ ap (λ z. us ++ z) q ∙ sym (append_assoc us vs last),
      λ other x. goes us vs mid last other a q (exchanged vs last other x) h ∙ g other x,
    )
    second ts us mid a e h (Refused [] x) g = tt
    second ts us mid a e h (Refused (t ∷ last) x) (vs, q, inl o) =
        (us ++ vs, e ∙ ap (λ z. us ++ z) q ∙ sym (append_assoc us vs (t ∷ last)), inl o)
    second ts us mid a e h (Refused (t ∷ last) x) (vs, q, inr (xe, off)) =
        (us ++ vs, e ∙ ap (λ z. us ++ z) q ∙ sym (append_assoc us vs (t ∷ last)), inr (xe, λ s. by_no_value s (off s)))
      where
        by_no_value : IsScalarKind t.kind → NoValueAfter true (k a) vs → NoValueAfter b (seq f k) (us ++ vs)
        by_no_value s (inl p) = inl (λ other st. (
          (p other st).0,
          goes us vs mid (t ∷ last) other a q
              (exchanged vs (t ∷ last) other (exchanged_bracket t last other s st)) h ∙ (p other st).1,
        ))
        by_no_value s (inr (n, p)) = inr (
          (λ c. let l = n refl in rw (length-append us vs) (omega (arith, l))),
          λ other st. (
            (p other st).0,
            goes us vs mid (t ∷ last) other a q
                (exchanged_some vs (t ∷ last) other (n refl)) h ∙ (p other st).1,
          ),
        )
    second ts us mid a e h Out g = tt

    pub seq_tell : (ts : List Lexeme) (r : Read F A) → TellsFault b f ts r → ((a : A) → TellsFaults true (k a))
        → TellsFault b (seq f k) ts (after r k)
    seq_tell ts (Took a mid) (us, e, h) g = second ts us mid a e h (k a mid) ((g a).at mid)
    seq_tell ts (Refused [] x) p g = tt
    seq_tell ts (Refused (t ∷ rest) x) (us, e, inl o) g = (us, e, inl o)
    seq_tell ts (Refused (t ∷ rest) x) (us, e, inr (xe, off)) g = (us, e, inr (xe, λ s. by_no_value (off s)))
      where
        by_no_value : NoValueAfter b f us → NoValueAfter b (seq f k) us
        by_no_value (inl p) = inl (λ other st. ((p other st).0, seq_refused f k (us ++ other) other _ (p other st).1))
        by_no_value (inr (n, p)) = inr (
          n,
          λ other st. (
            (p other st).0,
            seq_refused f k (us ++ other) other _ (p other st).1,
          ),
        )
    seq_tell ts Out p g = tt

    pub seq_tells : TellsFaults b f → ((a : A) → TellsFaults true (k a)) → TellsFaults b (seq f k)
    unfolding seq
    seq_tells r g = record { at = λ ts. seq_tell ts (f ts) (r.at ts) g }

  -- what is read, made into something else
  pub map_tells : {A B : Type 0} (f : Reader F A) (k : A → B) → TellsFaults true f
      → TellsFaults true (seq f (λ x. done (k x)))
  map_tells f k r = seq_tells true f _ r (λ x. done_tells true (k x))

  -- on
  module _ {A : Type 0} (b : Bool) (test : Test) (k : Lexeme → Reader F A) (g : Reader F A) where
    pub push : (t : Lexeme) (ts : List Lexeme) (r : Read F A) → passes test t ≡ true → TellsFault false (k t) ts r
        → TellsFault b (on test k g) (t ∷ ts) r
    push t ts (Took a rest) e (us, q, p) = (
      t ∷ us,
      ap (λ z. t ∷ z) q,
      λ other x. on_passed test k g t (us ++ other) e ∙ p other x,
    )
    push t ts (Refused [] x) e p = tt
    push t ts (Refused (u ∷ rest) x) e (us, q, inl o) = (t ∷ us, ap (λ z. t ∷ z) q, inl o)
    push t ts (Refused (u ∷ rest) x) e (us, q, inr (xe, off)) =
        (t ∷ us, ap (λ z. t ∷ z) q, inr (xe, λ s. by_no_value (off s)))
      where
        by_no_value : NoValueAfter false (k t) us → NoValueAfter b (on test k g) (t ∷ us)
        by_no_value (inl p) = inl (λ other st. ((p other st).0, on_passed test k g t (us ++ other) e ∙ (p other st).1))
        by_no_value (inr (n, p)) = inr (
          (λ c. omega arith),
          λ other st.
              ((p other st).0, on_passed test k g t (us ++ other) e ∙ (p other st).1),
        )
    push t ts Out e p = tt

    -- at one list
    pub on_at : (t : Lexeme) (ts : List Lexeme) (v : Bool) → passes test t ≡ v
        → (IsScalarKind t.kind → (w : Text) → test BracketOpen w ≡ false)
        → (b ≡ false → (w : Text) → test CurlyOpen w ≡ false)
        → ((u : Lexeme) → passes test u ≡ true → TellsFaults false (k u)) → TellsFault b g (t ∷ ts) (g (t ∷ ts))
        → TellsFault b (on test k g) (t ∷ ts) (on test k g (t ∷ ts))
    on_at t ts true e br cu hk hg = subst (λ z. TellsFault b (on test k g) (t ∷ ts) z) (sym (on_passed test k g t ts e))
        (push t ts (k t ts) e ((hk t e).at ts))
    on_at t ts false e br cu hk hg = subst (λ z. TellsFault b (on test k g) (t ∷ ts) z)
        (sym (on_failed test k g t ts e)) (same_tell b g (on test k g) (t ∷ ts) (g (t ∷ ts)) by_head by_curly hg)
      where
        by_head : (other : List Lexeme) → Exchange (t ∷ ts) other → on test k g other ≡ g other
        by_head [] x = absurd x
        by_head (u ∷ us) (inl x) = on_failed test k g u us (ap (passes test) x ∙ e)
        by_head (u ∷ us) (inr x) = on_failed test k g u us (ap (λ (z : Kind). test z u.text) x.1 ∙ br x.0 u.text)

        by_curly : b ≡ false → (other : List Lexeme) → Starts CurlyOpen other → on test k g other ≡ g other
        by_curly c [] x = absurd x
        by_curly c (u ∷ us) x = on_failed test k g u us (ap (λ (z : Kind). test z u.text) x ∙ cu c u.text)

    by_curly : (b ≡ false → (w : Text) → test CurlyOpen w ≡ false) → b ≡ false → (other : List Lexeme)
        → Starts CurlyOpen other → on test k g other ≡ g other
    by_curly cu c [] x = absurd x
    by_curly cu c (u ∷ us) x = on_failed test k g u us (ap (λ (z : Kind). test z u.text) x ∙ cu c u.text)

    by_empty : (other : List Lexeme) → Exchange [] other → on test k g other ≡ g other
    unfolding on
    by_empty [] x = refl
    by_empty (u ∷ us) x = absurd x

    on_list : (ts : List Lexeme) → PassesNoValue test → (b ≡ false → (w : Text) → test CurlyOpen w ≡ false)
        → ((u : Lexeme) → passes test u ≡ true → TellsFaults false (k u)) → TellsFaults b g
        → TellsFault b (on test k g) ts (on test k g ts)
    on_list [] bl cu hk hg = subst (λ z. TellsFault b (on test k g) [] z) (sym (by_empty [] tt))
        (same_tell b g (on test k g) [] (g []) by_empty (by_curly cu) (hg.at []))
    on_list (t ∷ ts) bl cu hk hg = on_at t ts (passes test t) refl (λ s. bl.bracket) cu hk (hg.at (t ∷ ts))

    pub on_turns_by : PassesNoValue test → (b ≡ false → (w : Text) → test CurlyOpen w ≡ false)
        → ((u : Lexeme) → passes test u ≡ true → TellsFaults false (k u)) → TellsFaults b g
        → TellsFaults b (on test k g)
    on_turns_by bl cu hk hg = record { at = λ ts. on_list ts bl cu hk hg }

  pub no_curly : {X : Type 0} → true ≡ false → X
  no_curly c = absurd (cc c)

  pub on_tells : {A : Type 0} (test : Test) (k : Lexeme → Reader F A) (g : Reader F A) → PassesNoValue test
      → ((u : Lexeme) → TellsFaults true (k u)) → TellsFaults true g → TellsFaults true (on test k g)
  on_tells test k g bl hk hg = on_turns_by true test k g bl (λ c. no_curly c) (λ u e. weak (k u) (hk u)) hg

  -- a token that is wanted, and then
  pub want_on : {A : Type 0} (test : Test) (k : Lexeme → Reader F A) (ts : List Lexeme)
      → seq (want test) k ts ≡ on test k refuse ts
  unfolding seq want on done refuse
  want_on test k [] = refl
  want_on test k (t ∷ ts) = by_test (passes test t)
    where
      by_test : (b : Bool) → after (pick b done refuse t ts) k ≡ pick b k refuse t ts
      by_test true = refl
      by_test false = refl

  pub want_type : {A : Type 0} (test : Test) (k : Lexeme → Reader F A) → PassesNoValue test
      → ((u : Lexeme) → TellsFaults false (k u)) → TellsFaults true (seq (want test) k)
  want_type test k bl hk = same_tells true (on test k refuse) (seq (want test) k) (want_on test k)
      (on_turns_by true test k refuse bl (λ c. no_curly c) (λ u e. hk u) (refuse_tells true))

  pub want_tells : {A : Type 0} (test : Test) (k : Lexeme → Reader F A) → PassesNoValue test
      → ((u : Lexeme) → TellsFaults true (k u)) → TellsFaults true (seq (want test) k)
  want_tells test k bl hk = want_type test k bl (λ u. weak (k u) (hk u))

  -- a token that is seen before it is taken
  pub look_on : {A : Type 0} (test : Test) (k : Lexeme → Reader F A) (g : Reader F A) (ts : List Lexeme)
      → look test (seq (want test) k) g ts ≡ on test k g ts
  unfolding look on
  look_on test k g [] = refl
  look_on test k g (t ∷ ts) = by_test (passes test t) refl
    where
      by_test : (b : Bool) → passes test t ≡ b → choose b (seq (want test) k) g (t ∷ ts) ≡ pick b k g t ts
      by_test true e = want_on test k (t ∷ ts) ∙ on_passed test k refuse t ts e
      by_test false e = refl

  -- a token of a kind with which no value begins, and then
  pub kind_tells : {A : Type 0} (j : Kind) → starts_value j ≡ false → (k : Lexeme → Reader F A)
      → ((u : Lexeme) → TellsFaults true (k u)) → TellsFaults true (seq (want (of j)) k)
  kind_tells j h k hk = want_tells (of j) k (no_value_by j h) hk

  -- look
  module _ {A : Type 0} (test : Test) (f g : Reader F A) (bl : PassesNoValue test) (hf : TellsFaults true f)
      (hg : TellsFaults true g) where
    chosen : (v : Bool) (u : Lexeme) (us : List Lexeme) → passes test u ≡ v
        → look test f g (u ∷ us) ≡ choose v f g (u ∷ us)
    unfolding look
    chosen v u us e = ap (λ z. choose z f g (u ∷ us)) e

    look_head : (t : Lexeme) (ts : List Lexeme) (v : Bool) → passes test t ≡ v → (other : List Lexeme)
        → Exchange (t ∷ ts) other → look test f g other ≡ choose v f g other
    look_head t ts v e [] x = absurd x
    look_head t ts v e (u ∷ us) (inl x) = chosen v u us (ap (passes test) x ∙ e)
    look_head t ts true e (u ∷ us) (inr x) = absurd (cc (sym e ∙ bl.scalar t.kind t.text x.0))
    look_head t ts false e (u ∷ us) (inr x) =
        chosen false u us (ap (λ (z : Kind). test z u.text) x.1 ∙ bl.bracket u.text)

    look_at : (t : Lexeme) (ts : List Lexeme) (v : Bool) → passes test t ≡ v
        → TellsFault true (look test f g) (t ∷ ts) (choose v f g (t ∷ ts))
    look_at t ts true e = same_tell true f (look test f g) (t ∷ ts) (f (t ∷ ts)) (look_head t ts true e)
        (λ c. no_curly c) (hf.at (t ∷ ts))
    look_at t ts false e = same_tell true g (look test f g) (t ∷ ts) (g (t ∷ ts)) (look_head t ts false e)
        (λ c. no_curly c) (hg.at (t ∷ ts))

    look_empty : (other : List Lexeme) → Exchange [] other → look test f g other ≡ g other
    unfolding look
    look_empty [] x = refl
    look_empty (u ∷ us) x = absurd x

    look_list : (ts : List Lexeme) → TellsFault true (look test f g) ts (look test f g ts)
    unfolding look
    look_list [] = same_tell true g (look test f g) [] (g []) look_empty (λ c. no_curly c) (hg.at [])
    look_list (t ∷ ts) = look_at t ts (passes test t) refl

    pub look_tells : TellsFaults true (look test f g)
    look_tells = record { at = look_list }

  -- with_span
  module _ {A : Type 0} (b : Bool) (f : Reader F (Span → A)) where
    span_tell : (ts : List Lexeme) (r : Read F (Span → A)) → TellsFault b f ts r
        → TellsFault b (with_span f) ts (after r (give_span ts))
    span_tell ts (Took k rest) (us, e, p) = (
      us,
      e,
      λ other x. span_took f (us ++ other) other k (p other x)
          ∙ ap (λ (z : List Lexeme). Took (k (span_of z)) other)
          (front_is us other ∙ sym (ap (λ (z : List Lexeme). front z rest) e ∙ front_is us rest)),
    )
    span_tell ts (Refused [] x) p = tt
    span_tell ts (Refused (t ∷ rest) x) (us, e, inl o) = (us, e, inl o)
    span_tell ts (Refused (t ∷ rest) x) (us, e, inr (xe, off)) = (us, e, inr (xe, λ s. by_no_value (off s)))
      where
        by_no_value : NoValueAfter b f us → NoValueAfter b (with_span f) us
        by_no_value (inl p) = inl (λ other st. ((p other st).0, span_refused f (us ++ other) other _ (p other st).1))
        by_no_value (inr (n, p)) = inr (
          n,
          λ other st. (
            (p other st).0,
            span_refused f (us ++ other) other _ (p other st).1,
          ),
        )
    span_tell ts Out p = tt

    pub span_tells : TellsFaults b f → TellsFaults b (with_span f)
    unfolding with_span
    span_tells r = record { at = λ ts. span_tell ts (f ts) (r.at ts) }

  -- loops
  pub out_tells : {A : Type 0} (f : Reader F A) → ((ts : List Lexeme) → f ts ≡ Out) → TellsFaults true f
  out_tells f e = record { at = λ ts. subst (λ z. TellsFault true f ts z) (sym (e ts)) tt }

  pub many_tells : {A : Type 0} (close : Test) (f : Reader F A) (n : ℕ) → PassesNoValue close → TellsFaults true f
      → TellsFaults true (many close f n)
  unfolding many
  many_tells close f zero bl r = out_tells (many close f zero) (λ ts. refl)
  many_tells close f (suc n) bl r = on_tells close _ _ bl (λ t. done_tells true _)
      (seq_tells true f _ r (λ x. seq_tells true _ _ (many_tells close f n bl r) (λ q. done_tells true _)))

  pub one_or_more_tells : {A : Type 0} (close : Test) (f : Reader F A) (n : ℕ) → PassesNoValue close
      → TellsFaults true f → TellsFaults true (one_or_more close f n)
  one_or_more_tells close f n bl r = seq_tells true f _ r (λ x.
      seq_tells true _ _ (many_tells close f n bl r) (λ q. done_tells true _))

  pub repeated_tells : {A : Type 0} (test : Test) (f : Reader F A) (n : ℕ) → PassesNoValue test → TellsFaults true f
      → TellsFaults true (repeated test f n)
  unfolding repeated
  repeated_tells test f zero bl r = out_tells (repeated test f zero) (λ ts. refl)
  repeated_tells test f (suc n) bl r = look_tells test _ _ bl
      (seq_tells true f _ r (λ x. seq_tells true _ _ (repeated_tells test f n bl r) (λ q. done_tells true _)))
      (done_tells true _)

  pub maybe_tells : {A : Type 0} (test : Test) (f : Reader F A) → PassesNoValue test → TellsFaults true f
      → TellsFaults true (maybe test f)
  maybe_tells test f bl r = look_tells test _ _ bl (seq_tells true f _ r (λ x. done_tells true _)) (done_tells true _)
