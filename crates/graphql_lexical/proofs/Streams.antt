-- The tokens of a source within limits, as a stream computes them.
use Rattle.std.proofs.Common.{count_by, ◌⊎◌, ◌≡◌, ℕ, zero, suc, ◌+◌, ◌-◌, ◌<◌, ◌≤◌, inl, inr, Bool, true, false, cond}
use Rattle.std.proofs.Common.{List, [], ◌∷◌, ◌++◌, length, drop, Result, Ok, Err, refl, sym, ap, ap₂, ◌∙◌, subst}
use Rattle.std.proofs.Common.{arith}
use Rattle.std.proofs.lemmas.Bool.{ltb-true, ltb-false}
use Rattle.std.proofs.lemmas.List.Sums.{sum_by-cons}
use Rattle.graphql_lexical.specs.Place.{Place}
use Rattle.graphql_lexical.specs.Kinds.{Kind, EndOfFile}
use Rattle.graphql_lexical.specs.Nesting.{is_opening, is_closing, opened, closed, ended_by}
use Rattle.graphql_lexical.specs.device.Indexed.{StandsAt, CutFrom}
use Rattle.graphql_lexical.specs.Cutting.{Lexeme, EndsOnce}
use Rattle.graphql_lexical.specs.device.Scan.{Found, Missed, scan, ignored_size, lexeme_at, is_end}
use Rattle.graphql_lexical.specs.device.Streams.{Tokens, with_first, only, opened_with, closed_with, goes_deep}
use Rattle.graphql_lexical.specs.device.Streams.{only_end, last_at, found_or, next_at, after_token, stream}
use Rattle.graphql_lexical.proofs.SameKind.{kind_is, other_kind}
use Rattle.graphql_lexical.proofs.Cuts.{IsComputed, computed, stands_from, stands_size, not_end}

-- ---- the tokens end once

first_of_one : (x : Lexeme) (xs : List Lexeme) → is_end x.kind ≡ false → EndsOnce xs → EndsOnce (x ∷ xs)
first_of_one x [] e h = absurd h
first_of_one x (y ∷ ys) e h = (e, h)

last_ends : (source : List ℕ) (j : ℕ) (r : Result Found Missed) → EndsOnce (last_at source j r).tokens
last_ends source j (Ok f) = by_end (is_end f.kind) refl
  where
    by_end : (b : Bool) → is_end f.kind ≡ b → EndsOnce (only_end source j f b).tokens
    by_end true e = kind_is f.kind EndOfFile e
    by_end false e = refl
last_ends source j (Err m) = refl

next_ends : (source : List ℕ) (j : ℕ) (go : ℕ → Kind → Tokens) (r : Result Found Missed)
    → ((n : ℕ) (k : Kind) → EndsOnce (go n k).tokens) → EndsOnce (next_at source j go r).tokens
next_ends source j go (Ok f) h = by_end (is_end f.kind) refl
  where
    by_end : (b : Bool) → is_end f.kind ≡ b → EndsOnce (found_or source j go f b).tokens
    by_end true e = kind_is f.kind EndOfFile e
    by_end false e = first_of_one (lexeme_at source j f) (go (j + f.size) f.kind).tokens e (h (j + f.size) f.kind)
next_ends source j go (Err m) h = refl

after_ends : (source : List ℕ) (next : ℕ) (rest : Tokens) (deep : Bool) → EndsOnce rest.tokens
    → EndsOnce (after_token source next rest deep).tokens
after_ends source next rest true h = refl
after_ends source next rest false h = h

-- where a token or the end stands, after ignored tokens
abbrev past : List ℕ → ℕ → ℕ
past source k = k + ignored_size (drop k source)

abbrev there : List ℕ → ℕ → Result Found Missed
there source k = scan (drop (past source k) source)

-- what follows a token of a stream
abbrev follows : ℕ → ℕ → List ℕ → ℕ → ℕ → ℕ → Kind → Tokens
follows depth left source o c next kind = after_token source next
    (stream depth left source next (opened_with kind o) (closed_with kind c)) (goes_deep depth kind o c)

pub stream_ends : (depth left : ℕ) (source : List ℕ) (k o c : ℕ) → EndsOnce (stream depth left source k o c).tokens
stream_ends depth zero source k o c = last_ends source (past source k) (there source k)
stream_ends depth (suc left) source k o c =
    next_ends source (past source k) (follows depth left source o c) (there source k)
    (λ n kind. after_ends source n (stream depth left source n (opened_with kind o) (closed_with kind c))
    (goes_deep depth kind o c) (stream_ends depth left source n (opened_with kind o) (closed_with kind c)))

-- ---- how deep tokens are nested, where so many brackets were opened and closed before them

-- the nesting exceeds depth nowhere
abbrev pub ShallowFrom : ℕ → ℕ → ℕ → List Lexeme → Type 0
ShallowFrom depth o c ts = (front others : List Lexeme) → ts ≡ front ++ others
    → o + opened front ≤ depth + (c + closed front)

-- t, after the tokens before it, is the first at which the nesting exceeds depth
pub record DeeperFrom (depth o c : ℕ) (ts before : List Lexeme) (t : Lexeme) : Type 0 where
  pub after : List Lexeme
  pub whole : ts ≡ before ++ t ∷ after
  pub deeper : depth + (c + closed (before ++ t ∷ [])) < o + opened (before ++ t ∷ [])
  pub first : ShallowFrom depth o c before

-- one token more at the front
counted_first : (passes : Kind → Bool) (x : Lexeme) (xs : List Lexeme) (n : ℕ)
    → n + count_by (λ (t : Lexeme). passes t.kind) (x ∷ xs)
    ≡ cond (passes x.kind) (suc n) n + count_by (λ (t : Lexeme). passes t.kind) xs
counted_first passes x xs n = by_test (passes x.kind) refl
  where
    sum : count_by (λ (t : Lexeme). passes t.kind) (x ∷ xs)
        ≡ cond (passes x.kind) 1 0 + count_by (λ (t : Lexeme). passes t.kind) xs
    sum = sum_by-cons (λ (t : Lexeme). cond (passes t.kind) 1 0) x xs

    by_test : (b : Bool) → passes x.kind ≡ b
        → n + count_by (λ (t : Lexeme). passes t.kind) (x ∷ xs)
        ≡ cond b (suc n) n + count_by (λ (t : Lexeme). passes t.kind) xs
    by_test true e = omega (arith, sum, ap {B = ℕ} (λ (b : Bool). cond b 1 0) e)
    by_test false e = omega (arith, sum, ap {B = ℕ} (λ (b : Bool). cond b 1 0) e)

opened_first : (x : Lexeme) (xs : List Lexeme) (o : ℕ) → o + opened (x ∷ xs) ≡ opened_with x.kind o + opened xs
opened_first = counted_first is_opening

closed_first : (x : Lexeme) (xs : List Lexeme) (c : ℕ) → c + closed (x ∷ xs) ≡ closed_with x.kind c + closed xs
closed_first = counted_first is_closing

-- A token at the front, with which so many are open, and after which the nesting is that of the others.
module _ (depth o c : ℕ) (x : Lexeme) (l : o ≤ depth + c) where
  front_shallow : (xs : List Lexeme) → ShallowFrom depth (opened_with x.kind o) (closed_with x.kind c) xs
      → ShallowFrom depth o c (x ∷ xs)
  front_shallow xs h [] others e = omega (arith, l)
  front_shallow xs h (y ∷ ys) others e =
      let same : y ≡ x = cc in
      let rest : xs ≡ ys ++ others = cc in
      subst (λ (z : Lexeme). o + opened (z ∷ ys) ≤ depth + (c + closed (z ∷ ys))) (sym same)
      (omega (arith, h ys others rest, opened_first x ys o, closed_first x ys c))

  front_deeper : (xs before : List Lexeme) (t : Lexeme)
      → DeeperFrom depth (opened_with x.kind o) (closed_with x.kind c) xs before t
      → DeeperFrom depth o c (x ∷ xs) (x ∷ before) t
  front_deeper xs before t d = record {
    after = d.after;
    whole = ap (λ (us : List Lexeme). x ∷ us) d.whole;
    deeper = omega (arith, d.deeper, opened_first x (before ++ t ∷ []) o, closed_first x (before ++ t ∷ []) c);
    first = front_shallow before d.first;
  }

  deeper_here : (xs : List Lexeme) → goes_deep depth x.kind o c ≡ true → DeeperFrom depth o c (x ∷ xs) [] x
  deeper_here xs e =
      let deep : depth < opened_with x.kind o - closed_with x.kind c = ltb-true depth (opened_with x.kind o -
      closed_with x.kind c) e in record {
        after = xs;
        whole = refl;
        deeper = omega (arith, deep, opened_first x [] o, closed_first x [] c);
        first = λ front others h. none front others h;
      }
    where
      none : (front others : List Lexeme) → [] ≡ front ++ others → o + opened front ≤ depth + (c + closed front)
      none [] others h = omega (arith, l)
      none (y ∷ ys) others h = absurd (cc h)

  goes_no_deeper : goes_deep depth x.kind o c ≡ false → opened_with x.kind o ≤ depth + closed_with x.kind c
  goes_no_deeper e =
      let shallow : opened_with x.kind o - closed_with x.kind c ≤ depth = ltb-false depth (opened_with x.kind o -
      closed_with x.kind c) e in
      omega (arith, shallow)

  -- the end opens nothing
  end_shallow : x.kind ≡ EndOfFile → ShallowFrom depth o c (x ∷ [])
  end_shallow e = front_shallow [] (λ front others h. none front others h)
    where
      none : (front others : List Lexeme) → [] ≡ front ++ others
          → opened_with x.kind o + opened front ≤ depth + (closed_with x.kind c + closed front)
      none [] others h =
          subst (λ (k : Kind). opened_with k o + 0 ≤ depth + (closed_with k c + 0)) (sym e) (omega (arith, l))
      none (y ∷ ys) others h = absurd (cc h)

-- ---- a stream that is whole is the cut of its source, with few tokens, and none too deep

abbrev IsWhole : ℕ → ℕ → List ℕ → ℕ → ℕ → ℕ → List Lexeme → Type 0
IsWhole depth left source k o c ts = CutFrom source k ts × (length ts ≤ suc left) × ShallowFrom depth o c ts

-- the end stands there
whole_end : (depth left : ℕ) (source : List ℕ) (k o c : ℕ) (f : Found) → there source k ≡ Ok f → is_end f.kind ≡ true
    → o ≤ depth + c → IsWhole depth left source k o c (lexeme_at source (past source k) f ∷ [])
whole_end depth left source k o c f e h l =
    let x = lexeme_at source (past source k) f in
    let kind = kind_is f.kind EndOfFile h in (
      (past source k + f.size, stands_from source k (past source k) f refl e, inl (kind, refl)),
      omega arith,
      end_shallow depth o c x l kind,
    )

last_whole : (depth left : ℕ) (source : List ℕ) (k o c : ℕ) (r : Result Found Missed) → there source k ≡ r
    → o ≤ depth + c → (last_at source (past source k) r).whole ≡ true
    → IsWhole depth left source k o c (last_at source (past source k) r).tokens
last_whole depth left source k o c (Ok f) e l w = by_end (is_end f.kind) refl w
  where
    by_end : (b : Bool) → is_end f.kind ≡ b → (only_end source (past source k) f b).whole ≡ true
        → IsWhole depth left source k o c (only_end source (past source k) f b).tokens
    by_end true h v = whole_end depth left source k o c f e h l
    by_end false h v = absurd (cc v)
last_whole depth left source k o c (Err m) e l w = absurd (cc w)

module _ (depth left : ℕ) (source : List ℕ) (k o c : ℕ) (n : k ≤ length source) (l : o ≤ depth + c)
    (go : (next p q : ℕ) → next ≤ length source → p ≤ depth + q → (stream depth left source next p q).whole ≡ true
    → IsWhole depth left source next p q (stream depth left source next p q).tokens) where
  whole_after : (f : Found) → there source k ≡ Ok f → is_end f.kind ≡ false → (deep : Bool)
      → goes_deep depth f.kind o c ≡ deep
      → (after_token source (past source k + f.size)
      (stream depth left source (past source k + f.size) (opened_with f.kind o) (closed_with f.kind c)) deep).whole ≡
      true
      → IsWhole depth (suc left) source k o c (lexeme_at source (past source k) f
      ∷ (after_token source (past source k + f.size)
      (stream depth left source (past source k + f.size) (opened_with f.kind o) (closed_with f.kind c)) deep).tokens)
  whole_after f e h true d v = absurd (cc v)
  whole_after f e h false d v =
      let x = lexeme_at source (past source k) f in
      let next = past source k + f.size in
      let stands = stands_from source k (past source k) f refl e in
      let size = stands_size source k x next n stands (not_end f.kind h) in
      let rest = go next (opened_with f.kind o) (closed_with f.kind c) size.1 (goes_no_deeper depth o c x l d) v in (
        (next, stands, inr (not_end f.kind h, rest.0)),
        omega (arith, rest.1),
        front_shallow depth o c x l (stream depth left source next (opened_with f.kind o) (closed_with f.kind
            c)).tokens rest.2,
      )

  whole_found : (f : Found) → there source k ≡ Ok f → (b : Bool) → is_end f.kind ≡ b
      → (found_or source (past source k) (follows depth left source o c) f b).whole ≡ true
      → IsWhole depth (suc left) source k o c (found_or source (past source k) (follows depth left source o c) f
      b).tokens
  whole_found f e true h v = whole_end depth (suc left) source k o c f e h l
  whole_found f e false h v = whole_after f e h (goes_deep depth f.kind o c) refl v

  whole_next : (r : Result Found Missed) → there source k ≡ r
      → (next_at source (past source k) (follows depth left source o c) r).whole ≡ true
      → IsWhole depth (suc left) source k o c (next_at source (past source k) (follows depth left source o c) r).tokens
  whole_next (Ok f) e v = whole_found f e (is_end f.kind) refl v
  whole_next (Err m) e v = absurd (cc v)

pub whole_cut : (depth left : ℕ) (source : List ℕ) (k o c : ℕ) → k ≤ length source → o ≤ depth + c
    → (stream depth left source k o c).whole ≡ true
    → IsWhole depth left source k o c (stream depth left source k o c).tokens
whole_cut depth zero source k o c n l w = last_whole depth zero source k o c (there source k) refl l w
whole_cut depth (suc left) source k o c n l w =
    whole_next depth left source k o c n l
    (λ next p q. whole_cut depth left source next p q) (there source k) refl w

-- ---- the stream of a source that is cut into few tokens

-- the tokens, or those up to the first that is too deep
abbrev pub Streams : ℕ → ℕ → ℕ → List Lexeme → Tokens → Type 0
Streams depth o c ts s = (ShallowFrom depth o c ts × (s ≡ record { tokens = ts; whole = true }))
    ⊎ ((before : List Lexeme) × (t : Lexeme) × DeeperFrom depth o c ts before t × (s.tokens ≡ ended_by before t))

module _ (depth : ℕ) (source : List ℕ) (k o c : ℕ) (l : o ≤ depth + c) (x : Lexeme) (next : ℕ) (s : StandsAt source k x
    next) where
  abbrev its : IsComputed source k x next
  its = computed source k x next s

  abbrev f : Found
  f = record { size = its.size; kind = x.kind; text = x.text }

  last_streams : x.kind ≡ EndOfFile → Streams depth o c (x ∷ []) (last_at source (past source k) (there source k))
  last_streams e =
      inl (
        end_shallow depth o c x l e,
        ap (last_at source (past source k)) its.scanned
            ∙ (ap (only_end source (past source k) f) (ap is_end e) ∙ ap (λ (y : Lexeme). only y true) its.lexeme_is),
      )

  module _ (left : ℕ) where
    end_streams : x.kind ≡ EndOfFile
        → Streams depth o c (x ∷ []) (next_at source (past source k) (follows depth left source o c) (there source k))
    end_streams e =
        inl (
          end_shallow depth o c x l e,
          ap (next_at source (past source k) (follows depth left source o c)) its.scanned
              ∙ (ap (found_or source (past source k) (follows depth left source o c) f) (ap is_end e)
              ∙ ap (λ (y : Lexeme). only y true) its.lexeme_is),
        )

    abbrev rest : Tokens
    rest = stream depth left source next (opened_with x.kind o) (closed_with x.kind c)

    found_is : (x.kind ≡ EndOfFile → ⊥)
        → next_at source (past source k) (follows depth left source o c) (there source k)
        ≡ with_first x (after_token source next rest (goes_deep depth x.kind o c))
    found_is h =
        ap (next_at source (past source k) (follows depth left source o c)) its.scanned
        ∙ (ap (found_or source (past source k) (follows depth left source o c) f) (other_kind x.kind EndOfFile h)
        ∙ ap₂ (λ (y : Lexeme) (n : ℕ). with_first y (follows depth left source o c n x.kind)) its.lexeme_is
        its.next_is)

    module _ (xs : List Lexeme) (go : opened_with x.kind o ≤ depth + closed_with x.kind c
        → Streams depth (opened_with x.kind o) (closed_with x.kind c) xs rest) where
      more_streams : Streams depth (opened_with x.kind o) (closed_with x.kind c) xs rest
          → Streams depth o c (x ∷ xs) (with_first x rest)
      more_streams (inl h) = inl (
        front_shallow depth o c x l xs h.0,
        ap (with_first x) h.1,
      )
      more_streams (inr (before, t, d, e)) = inr (
        x ∷ before,
        t,
        front_deeper depth o c x l xs before t d,
        ap (λ (us : List Lexeme). x ∷ us) e,
      )

      after_streams : (deep : Bool) → goes_deep depth x.kind o c ≡ deep
          → Streams depth o c (x ∷ xs) (with_first x (after_token source next rest deep))
      after_streams true e = inr (
        [],
        x,
        deeper_here depth o c x l xs e,
        ap (λ (p : Place). x ∷ record { kind = EndOfFile; text = []; span = record { start = p; end = p } } ∷ []) (sym
            s.end),
      )
      after_streams false e = more_streams (go (goes_no_deeper depth o c x l e))

      token_streams : (x.kind ≡ EndOfFile → ⊥)
          → Streams depth o c (x ∷ xs) (next_at source (past source k) (follows depth left source o c) (there source
          k))
      token_streams h =
          subst (Streams depth o c (x ∷ xs)) (sym (found_is h)) (after_streams (goes_deep depth x.kind o c) refl)

some_cut : (source : List ℕ) (k : ℕ) (ts : List Lexeme) → CutFrom source k ts → 0 < length ts
some_cut source k [] cut = absurd cut
some_cut source k (x ∷ xs) cut = omega arith

pub cut_streams : (depth left : ℕ) (source : List ℕ) (k o c : ℕ) (ts : List Lexeme) → o ≤ depth + c
    → CutFrom source k ts
    → length ts ≤ suc left → Streams depth o c ts (stream depth left source k o c)
cut_streams depth left source k o c [] l cut few = absurd cut
cut_streams depth zero source k o c (x ∷ xs) l (next, s, inl (e, none)) few =
    subst (λ (us : List Lexeme). Streams depth o c (x ∷ us) (stream depth zero source k o c)) (sym none)
    (last_streams depth source k o c l x next s e)
cut_streams depth zero source k o c (x ∷ xs) l (next, s, inr (e, cut)) few =
    absurd (omega (arith, few, some_cut source next xs cut))
cut_streams depth (suc left) source k o c (x ∷ xs) l (next, s, inl (e, none)) few =
    subst (λ (us : List Lexeme). Streams depth o c (x ∷ us) (stream depth (suc left) source k o c)) (sym none)
    (end_streams depth source k o c l x next s left e)
cut_streams depth (suc left) source k o c (x ∷ xs) l (next, s, inr (e, cut)) few =
    token_streams depth source k o c l x next s left xs
    (λ h. cut_streams depth left source next (opened_with x.kind o) (closed_with x.kind c) xs h cut (omega (
      arith,
      few,
    ))) e
