-- What the walk keeps, and what each of its steps gives.
use Rattle.std.proofs.Common.{◌≡◌, ◌≤◌, ◌+◌, ℕ, List, [], ◌∷◌, length, drop, Some, refl, sym, ◌∙◌, inl, inr, subst}
use Rattle.std.specs.List.{slice_get}
use Rattle.std.proofs.lemmas.Bool.{cases_eq}
use Rattle.juniper_tokens.specs.declared.span.Span.{Span}
use Rattle.juniper_outlines.specs.Sums.{plus_capped, at_level_capped}
use Rattle.juniper_outlines.specs.Outlines.{IsAmong}
use Rattle.juniper_outlines.specs.Outlines.{Outline, Spread, OutlineHas, outline_has, AddsUpTo, no_spread}
use Rattle.juniper_outlines.specs.Outlines.{spread_first, Breaks}
use Rattle.juniper_outlines.specs.Outlines.{names_none, names_outer, breaks_within, breaks_after, BreaksAt}
use Rattle.juniper_outlines.specs.device.Walk.{AreRight, LeadsTo, Waits}
use Rattle.juniper_outlines.specs.device.Walk.{IsOpen, IsNext, IsStep, step_done, step_spread, step_enter, step_cycle}
use Rattle.juniper_outlines.specs.device.Walk.{step_unknown}
use Rattle.juniper_outlines.specs.declared.complexity.Complexity.{Complexity}
use Rattle.juniper_outlines.specs.declared.complexity.ComplexityFailure.{ComplexityFailure}
use Rattle.juniper_outlines.specs.declared.complexity.ComplexityFailure.TheVariants as failure
use Rattle.juniper_outlines.specs.declared.walk.State.{State}
use Rattle.juniper_outlines.specs.declared.walk.State.TheVariants as state
use Rattle.juniper_outlines.specs.declared.walk.Step.TheVariants as step
use Rattle.juniper_outlines.proofs.Places.{drop_at_get, drop_past, Written, written, read_back}

module _ (g : List Outline) where
  -- of the definition i the first n spreads have been added up to a
  pub record Partly (i n : ℕ) (a : Complexity) : Type 0 where
    pub outline : Outline
    pub is : slice_get g i ≡ Some outline
    pub adds : (c : Complexity) → AddsUpTo g a (drop n outline.spreads) c
        → AddsUpTo g outline.own outline.spreads c
    pub breaks : (inside : List ℕ) (f : ComplexityFailure) → Breaks g inside (drop n outline.spreads) f
        → Breaks g inside outline.spreads f

  -- what the definition t breaks by, the root breaks by
  pub record Link (root t : ℕ) (rest : List ℕ) : Type 0 where
    pub fresh : ¬ IsAmong t rest
    pub breaks : (o : Outline) → slice_get g t ≡ Some o → (f : ComplexityFailure)
        → Breaks g (t ∷ rest) o.spreads f → BreaksAt g root f

  abbrev pub Chain : ℕ → List ℕ → Type 0
  Chain root [] = Unit {0}
  Chain root (t ∷ rest) = Link root t rest × Chain root rest

  -- the last of these is the root
  abbrev pub Ends : ℕ → ℕ → List ℕ → Type 0
  Ends root t [] = t ≡ root
  Ends root t (u ∷ rest) = Ends root u rest

  -- each of these but the innermost waits for the one before it
  abbrev pub Leads : List State → ℕ → List ℕ → Type 0
  Leads ss at [] = Unit {0}
  Leads ss at (above ∷ rest) = LeadsTo g ss above at × Leads ss above rest

  -- the definitions on the path are those that are open, the innermost first
  pub record Walks (root : ℕ) (ss : List State) (at : ℕ) (rest : List ℕ) : Type 0 where
    pub done : (i : ℕ) (c : Complexity) → slice_get ss i ≡ Some (state.Done c) → OutlineHas g i c
    pub partly : (i n : ℕ) (a : Complexity) → slice_get ss i ≡ Some (state.Open n a) → Partly i n a
    pub on_path : (i n : ℕ) (a : Complexity) → slice_get ss i ≡ Some (state.Open n a) → IsAmong i (at ∷ rest)
    pub is_open : (i : ℕ) → IsAmong i (at ∷ rest) → IsOpen ss i
    pub chain : Chain root (at ∷ rest)
    pub leads : Leads ss at rest
    pub ends : Ends root at rest

  -- where the next spread is done, it adds its complexity
  next_adds : (i n t : ℕ) (a b : Complexity) (o : Outline) (s : Spread) → slice_get g i ≡ Some o
      → slice_get o.spreads n ≡ Some s
      → s.target ≡ Some t → OutlineHas g t b → Partly i n a
      → Partly i (n + 1) (plus_capped a (at_level_capped s.fields_around b))
  next_adds i n t a b o s eo es et k p =
      let same : p.outline ≡ o = cc (p.is, eo) in
      let here : slice_get p.outline.spreads n ≡ Some s = rw same es in
      let split = drop_at_get p.outline.spreads n s here in
      record {
        outline = p.outline;
        is = p.is;
        adds = λ c h. p.adds c (rw split (spread_first t b et k h));
        breaks = λ inside f h. p.breaks inside f (rw split (breaks_after t b et k h));
      }

  unvisited_partly : (i : ℕ) (o : Outline) → slice_get g i ≡ Some o → Partly i 0 o.own
  unvisited_partly i o e = record { outline = o; is = e; adds = λ c h. h; breaks = λ inside f h. h }

  moved : (i j : ℕ) (c d : Complexity) → i ≡ j → c ≡ d → OutlineHas g j c → OutlineHas g i d
  moved i j c d q r h = rw (q, ← r) h

  moved_part : (i j n m : ℕ) (a b : Complexity) → i ≡ j → n ≡ m → a ≡ b → Partly j n a → Partly i m b
  moved_part i j n m a b q r e h = rw (q, ← r, ← e) h

  module _ (old new : List State) where
    still_open : (at : ℕ) (x : State) → Written old new at x → (i : ℕ) → (i ≡ at → ⊥) → IsOpen old i → IsOpen new i
    still_open at x w i q h = record { next = h.next; complexity = h.complexity; is = w.others i q ∙ h.is }

    leads_still : (i : ℕ) (x : State) → Written old new i x → (at inner : ℕ) → (at ≡ i → ⊥) → LeadsTo g old at inner
        → LeadsTo g new at inner
    leads_still i x w at inner q l = record {
      next = l.next;
      complexity = l.complexity;
      of = l.of;
      spread = l.spread;
      is_next = record {
        outline = l.is_next.outline;
        open_at = w.others at q ∙ l.is_next.open_at;
        spread = l.is_next.spread;
      };
      named = l.named;
    }

    still_leads : (i : ℕ) (x : State) → Written old new i x → (at : ℕ) (rest : List ℕ) → ¬ IsAmong i rest
        → Leads old at rest → Leads new at rest
    still_leads i x w at [] fresh l = tt
    still_leads i x w at (above ∷ rest) fresh l = (
      leads_still i x w above at (λ q. fresh (inl (sym q))) l.0,
      still_leads i x w above rest (λ h. fresh (inr h)) l.1,
    )

    -- ---- the beginning

    pub at_start : (root : ℕ) (o : Outline) → slice_get g root ≡ Some o → Written old new root (state.Open 0 o.own)
        → AreRight g old → Walks root new root []
    at_start root o eo w right = record {
      done = λ i c e. elim (read_back old new root (state.Open 0 o.own) w i (state.Done c) e)
          [ inl p ↦ absurd cc | inr p ↦ right.done i c p.1 ];
      partly = λ i n a e. elim (read_back old new root (state.Open 0 o.own) w i (state.Open n a) e) [
        | inl p ↦ moved_part i root 0 n o.own a p.0 (cc) (cc) (unvisited_partly root o eo)
        | inr p ↦
            absurd (right.none_open i n a p.1)
      ];
      on_path = λ i n a e. elim (read_back old new root (state.Open 0 o.own) w i (state.Open n a) e)
          [ inl p ↦ inl p.0 | inr p ↦ absurd (right.none_open i n a p.1) ];
      is_open = λ i h. elim h [ inl q ↦ record { next = 0; complexity = o.own; is = rw q w.here } | inr q ↦ absurd q ];
      chain = (record { fresh = λ h. h; breaks = λ p ep f h q eq. let same : p ≡ q = cc in rw (← same) h }, tt);
      leads = tt;
      ends = refl;
    }

    -- ---- the steps

    module _ (root at : ℕ) (rest : List ℕ) (walks : Walks root old at rest) where
      -- what breaks at the next spread breaks the root
      outwards : (n : ℕ) (a : Complexity) (o : Outline) (s : Spread) → IsNext g old at n a o s → (f : ComplexityFailure)
          → Breaks g (at ∷ rest) (s ∷ drop (n + 1) o.spreads) f → BreaksAt g root f
      outwards n a o s next f h =
          let p = walks.partly at n a next.open_at in
          let same : p.outline ≡ o = cc (p.is, next.outline) in
          let split = drop_at_get o.spreads n s next.spread in
          let inner : Breaks g (at ∷ rest) (drop n o.spreads) f = rw split h in
          let inner_too : Breaks g (at ∷ rest) (drop n p.outline.spreads) f = rw same inner in
          walks.chain.0.breaks p.outline p.is f (p.breaks (at ∷ rest) f inner_too)

      pub after_unknown : (span : Span) → IsStep g old new at (step.Unknown span)
          → BreaksAt g root (failure.Unknown span)
      after_unknown span (step_unknown n a o s next e) = outwards n a o s next (failure.Unknown s.span) (names_none e)

      pub after_cycle : (span : Span) → IsStep g old new at (step.Cycle span) → BreaksAt g root (failure.Cycle span)
      after_cycle span (step_cycle n t m a b o s next e open_t) =
          outwards n a o s next (failure.Cycle s.span) (names_outer t e (walks.on_path t m b open_t))

      -- the complexity of the definition that is done
      has_at : (n : ℕ) (a : Complexity) (o : Outline) → slice_get g at ≡ Some o
          → slice_get old at ≡ Some (state.Open n a)
          → length o.spreads ≤ n → OutlineHas g at a
      has_at n a o eo ea le =
          let p = walks.partly at n a ea in
          let same : p.outline ≡ o = cc (p.is, eo) in
          let past : drop n p.outline.spreads ≡ [] = rw same (drop_past o.spreads n le) in
          outline_has p.outline p.is (p.adds a (rw past no_spread))

      pub after_done : (a : Complexity) → IsStep g old new at (step.Done a) → OutlineHas g at a
      after_done a (step_done n b o eo ea le e) = has_at n b o eo ea le

      pub right_again : (a : Complexity) → IsStep g old new at (step.Done a) → rest ≡ [] → (root ≡ at) × AreRight g new
      right_again a (step_done n b o eo ea le e) none =
          let w = written old new at (state.Done b) (state.Open n b) ea e in
          let no_other = λ (i m : ℕ) (c : Complexity) (q : i ≡ at → ⊥) (h : slice_get old i ≡ Some (state.Open m c)).
          let among : IsAmong i (at ∷ []) = subst (λ (x : List ℕ). IsAmong i (at ∷ x)) none (walks.on_path i m c h) in
          elim among as (λ _. ⊥) [ inl p ↦ q p | inr p ↦ p ] in
          let last : Ends root at [] = subst (λ (x : List ℕ). Ends root at x) none walks.ends in (
            sym last,
            record {
              done = λ i c h. elim (read_back old new at (state.Done b) w i (state.Done c) h)
                  [ inl p ↦ moved i at b c p.0 (cc) (has_at n b o eo ea le) | inr p ↦ walks.done i c p.1 ];
              none_open = λ i m c h. elim (read_back old new at (state.Done b) w i (state.Open m c) h)
                  [ inl p ↦ absurd cc | inr p ↦ no_other i m c p.0 p.1 ];
            },
          )

      pub walks_above : (a : Complexity) → IsStep g old new at (step.Done a) → (above : ℕ) (others : List ℕ)
          → rest ≡ above ∷ others
          → Walks root new above others
      walks_above a (step_done n b o eo ea le e) above others r =
          let w = written old new at (state.Done b) (state.Open n b) ea e in
          let chain : Chain root (at ∷ above ∷ others) = subst (λ (x : List ℕ). Chain root (at ∷ x)) r walks.chain in
          let ends : Ends root at (above ∷ others) = subst (λ (x : List ℕ). Ends root at x) r walks.ends in
          let fresh : ¬ IsAmong at (above ∷ others) = chain.0.fresh in
          record {
            done = λ i c h. elim (read_back old new at (state.Done b) w i (state.Done c) h)
                [ inl p ↦ moved i at b c p.0 (cc) (has_at n b o eo ea le) | inr p ↦ walks.done i c p.1 ];
            partly = λ i m c h. elim (read_back old new at (state.Done b) w i (state.Open m c) h)
                [ inl p ↦ absurd cc | inr p ↦ walks.partly i m c p.1 ];
            on_path = λ i m c h. elim (read_back old new at (state.Done b) w i (state.Open m c) h) [
              | inl p ↦ absurd cc
              | inr p ↦ let among : IsAmong i (at ∷ above ∷ others) =
                  subst (λ (x : List ℕ). IsAmong i (at ∷ x)) r (walks.on_path i m c p.1) in
                  elim among as (λ _. IsAmong i (above ∷ others)) [ inl q ↦ absurd (p.0 q) | inr q ↦ q ]
            ];
            is_open = λ i h.
                let among : IsAmong i (at ∷ rest) = subst (λ (x : List ℕ). IsAmong i (at ∷ x)) (sym r) (inr h) in
                let other : i ≡ at → ⊥ = λ q. fresh (subst (λ (x : ℕ). IsAmong x (above ∷ others)) q h) in
                still_open at (state.Done b) w i other (walks.is_open i among);
            chain = chain.1;
            leads = still_leads at (state.Done b) w above others (λ h. fresh (inr h))
                (subst (λ (x : List ℕ). Leads old at x) r walks.leads).1;
            ends = ends;
          }

      -- the definition above waits for the one that is done
      pub waits_above : (a : Complexity) → IsStep g old new at (step.Done a) → (above : ℕ) (others : List ℕ)
          → rest ≡ above ∷ others → Waits g new above a
      waits_above a (step_done n b o eo ea le e) above others r =
          let w = written old new at (state.Done b) (state.Open n b) ea e in
          let chain : Chain root (at ∷ above ∷ others) = subst (λ (x : List ℕ). Chain root (at ∷ x)) r walks.chain in
          let leads : Leads old at (above ∷ others) = subst (λ (x : List ℕ). Leads old at x) r walks.leads in
          record {
            target = at;
            leads = leads_still at (state.Done b) w above at (λ q. chain.0.fresh (inl (sym q))) leads.0;
            is_done = w.here;
          }

      pub walks_on : IsStep g old new at step.NextSpread → Walks root new at rest
      walks_on (step_spread n t a b o s next et done_t e) =
          let sum = plus_capped a (at_level_capped s.fields_around b) in
          let after = state.Open (n + 1) sum in
          let w = written old new at after (state.Open n a) next.open_at e in
          let more = next_adds at n t a b o s next.outline next.spread et (walks.done t b done_t)
          (walks.partly at n a next.open_at) in
          record {
            done = λ i c h. elim (read_back old new at after w i (state.Done c) h)
                [ inl p ↦ absurd cc | inr p ↦ walks.done i c p.1 ];
            partly = λ i m c h. elim (read_back old new at after w i (state.Open m c) h)
                [ inl p ↦ moved_part i at (n + 1) m sum c p.0 (cc) (cc) more | inr p ↦ walks.partly i m c p.1 ];
            on_path = λ i m c h. elim (read_back old new at after w i (state.Open m c) h)
                [ inl p ↦ inl p.0 | inr p ↦ walks.on_path i m c p.1 ];
            is_open = λ i h. elim (cases_eq i at) [
              | inl q ↦ record { next = n + 1; complexity = sum; is = rw q w.here }
              | inr q ↦
                  still_open at after w i q (walks.is_open i h)
            ];
            chain = walks.chain;
            leads = still_leads at after w at rest walks.chain.0.fresh walks.leads;
            ends = walks.ends;
          }

      pub walks_into : (t : ℕ) → IsStep g old new at (step.Enter t) → Walks root new t (at ∷ rest)
      walks_into t (step_enter n u a o p s next et unvisited ep e) =
          let after = state.Open 0 p.own in
          let w = written old new u after state.Unvisited unvisited e in
          let fresh : ¬ IsAmong u (at ∷ rest) = λ h. let was = (walks.is_open u h).is in cc in
          record {
            done = λ i c h. elim (read_back old new u after w i (state.Done c) h)
                [ inl q ↦ absurd cc | inr q ↦ walks.done i c q.1 ];
            partly = λ i m c h. elim (read_back old new u after w i (state.Open m c) h) [
              | inl q ↦ moved_part i u 0 m p.own c q.0 (cc) (cc) (unvisited_partly u p ep)
              | inr q ↦
                  walks.partly i m c q.1
            ];
            on_path = λ i m c h. elim (read_back old new u after w i (state.Open m c) h)
                [ inl q ↦ inl q.0 | inr q ↦ inr (walks.on_path i m c q.1) ];
            is_open = λ i h. elim (cases_eq i u) [
              | inl q ↦ record { next = 0; complexity = p.own; is = rw q w.here }
              | inr q ↦ let among : IsAmong i (at ∷ rest) =
                  elim h as (λ _. IsAmong i (at ∷ rest)) [ inl r ↦ absurd (q r) | inr r ↦ r ] in
                  still_open u after w i q (walks.is_open i among)
            ];
            chain = (
              record {
                fresh = fresh;
                breaks = λ o2 eo2 f h. outwards n a o s next f (breaks_within u o2 et fresh eo2 h);
              },
              walks.chain,
            );
            leads = still_leads u after w u (at ∷ rest) fresh (
              record { next = n; complexity = a; of = o; spread = s; is_next = next; named = et },
              walks.leads,
            );
            ends = walks.ends;
          }
