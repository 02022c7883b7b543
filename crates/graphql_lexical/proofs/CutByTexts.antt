-- Cuts and breaks by texts and by numbers of characters: the same, both ways.
use Rattle.std.proofs.Common.{◌≡◌, ◌≢◌, ℕ, ◌+◌, inl, inr, List, [], ◌∷◌, ◌++◌, length, take, drop, refl, sym, ap, ap₂, ◌∙◌, subst, arith, append_assoc, take-add, drop-drop}
use Rattle.std.proofs.lemmas.List.{take-append-drop, length-append}
use Rattle.std.proofs.Math.Seq.{take-append_seam, drop-append_seam, take-append-add, drop-append-add}
use Rattle.graphql_lexical.specs.Place.{Place, position_after, place}
use Rattle.graphql_lexical.specs.Characters.{Text}
use Rattle.graphql_lexical.specs.Kinds.{EndOfFile, LexicalError}
use Rattle.graphql_lexical.specs.Reading.{Longest, Reads}
use Rattle.graphql_lexical.specs.Cutting.{AreIgnored, Lexeme, Stands, Leads, CutAfter, last, token, BreaksThere, BreaksAfter, Cut, Breaks}
use Rattle.graphql_lexical.specs.Cutting as form
use Rattle.graphql_lexical.specs.device.Indexed.{LongestAt, ReadsAt, FailsAt, StandsAt, LeadsAt, CutFrom, BreaksFrom}
use Rattle.graphql_lexical.specs.device.Indexed as now
use Rattle.graphql_lexical.proofs.ReadByTexts.{to_front, from_front, to_reads_text, from_reads_text, fails_from_text, fails_to_text}

-- ---- where a token stands

module _ (before left : Text) where
  abbrev both : Text
  both = before ++ left

  -- what comes n characters past the text before
  past : (n : ℕ) → drop (length before + n) both ≡ drop n left
  past n = drop-append-add before left n

  up_to : (n : ℕ) → take (length before + n) both ≡ before ++ take n left
  up_to n = take-append-add before left n

  past_ignored : (ignored rest : Text) → left ≡ ignored ++ rest → drop (length before + length ignored) both ≡ rest
  past_ignored ignored rest e = past (length ignored) ∙ ap (drop (length ignored)) e ∙ drop-append_seam ignored rest

  up_to_ignored : (ignored rest : Text) → left ≡ ignored ++ rest
      → take (length before + length ignored) both ≡ before ++ ignored
  up_to_ignored ignored rest e =
      up_to (length ignored)
      ∙ ap (λ (t : Text). before ++ t) (ap (take (length ignored)) e ∙ take-append_seam ignored rest)

  ignored_there : (ignored rest : Text) → left ≡ ignored ++ rest → Longest AreIgnored ignored rest → LongestAt AreIgnored (drop (length before) both) (length ignored)
  ignored_there ignored rest e h =
      subst (λ (t : Text). LongestAt AreIgnored t (length ignored)) (sym (drop-append_seam before left ∙ e)) (from_front AreIgnored ignored rest h)

pub done_whole : (before left : Text) (x : Lexeme) (done after : Text) → Stands before left x done after → before ++ left ≡ done ++ after
done_whole before left x done after s =
    ap (λ (t : Text). before ++ t) (s.left_is ∙ sym (append_assoc s.ignored s.whole after))
    ∙ (sym (append_assoc before (s.ignored ++ s.whole) after) ∙ ap (λ (t : Text). t ++ after) (sym s.done_is))

pub stands_from_text : (before left : Text) (x : Lexeme) (done after : Text) → Stands before left x done after
    → StandsAt (before ++ left) (length before) x (length done)
stands_from_text before left x done after s = record {
  ignored = length s.ignored;
  size = length s.whole;
  ignored_is = ignored_there before left s.ignored (s.whole ++ after) s.left_is s.longest_ignored;
  reads =
      subst (λ (t : Text). ReadsAt t (length s.whole) x.kind x.text) (sym (past_ignored before left s.ignored (s.whole ++ after) s.left_is))
      (from_reads_text s.whole after x.kind x.text s.reads);
  start = s.start ∙ ap position_after (sym (up_to_ignored before left s.ignored (s.whole ++ after) s.left_is));
  end = s.end ∙ ap position_after (sym (ap (take (length done)) (done_whole before left x done after s) ∙ take-append_seam done after));
  next_is = omega
      (arith, ap length s.done_is, length-append before (s.ignored ++ s.whole), length-append s.ignored s.whole);
}

pub stands_to_text : (source : Text) (k : ℕ) (x : Lexeme) (next : ℕ) → StandsAt source k x next
    → Stands (take k source) (drop k source) x (take next source) (drop next source)
stands_to_text source k x next s =
    let ignored = take s.ignored (drop k source) in
    let rest = drop (k + s.ignored) source in
    let past_ignored : drop s.ignored (drop k source) ≡ rest = drop-drop s.ignored k source in
    let left : drop s.size rest ≡ drop next source = drop-drop s.size (k + s.ignored) source ∙ ap (λ (i : ℕ). drop i source) (sym s.next_is) in
    let rest_is : rest ≡ take s.size rest ++ drop next source =
    sym (take-append-drop s.size rest) ∙ ap (λ (t : Text). take s.size rest ++ t) left in
    let front : take (k + s.ignored) source ≡ take k source ++ ignored = take-add k s.ignored source in
    record {
      ignored = ignored;
      whole = take s.size rest;
      left_is = sym (take-append-drop s.ignored (drop k source))
          ∙ ap (λ (t : Text). ignored ++ t) (past_ignored ∙ rest_is);
      done_is =
          ap (λ (i : ℕ). take i source) s.next_is
          ∙ (take-add (k + s.ignored) s.size source
          ∙ (ap (λ (t : Text). t ++ take s.size rest) front ∙ append_assoc (take k source) ignored (take s.size rest)));
      longest_ignored = subst (Longest AreIgnored ignored) (past_ignored ∙ rest_is)
          (to_front AreIgnored (drop k source) s.ignored s.ignored_is);
      reads =
          subst (λ (t : Text). Reads (take s.size rest) t x.kind x.text) left (to_reads_text rest s.size x.kind x.text s.reads);
      start = s.start ∙ ap position_after front;
      end = s.end;
    }

-- ---- cuts and breaks

pub cut_from_text : (before left : Text) (xs : List Lexeme) → CutAfter before left xs → CutFrom (before ++ left) (length before) xs
cut_from_text before left _ (last {done = done} {after = after} {x = x} s e) =
    (length done, stands_from_text before left x done after s, inl (e, refl))
cut_from_text before left _ (token {done = done} {after = after} {x = x} {xs = xs} s n c) = (
  length done,
  stands_from_text before left x done after s,
  inr (
    n,
    subst (λ (t : Text). CutFrom t (length done) xs) (sym (done_whole before left x done after s)) (cut_from_text done after xs c),
  ),
)

pub cut_to_text : (source : Text) (k : ℕ) (xs : List Lexeme) → CutFrom source k xs → CutAfter (take k source) (drop k source) xs
cut_to_text source k [] c = absurd c
cut_to_text source k (x ∷ xs) (next, s, inl (e, none)) =
    subst (λ (ys : List Lexeme). CutAfter (take k source) (drop k source) (x ∷ ys)) (sym none)
    (last (stands_to_text source k x next s) e)
cut_to_text source k (x ∷ xs) (next, s, inr (n, c)) = token (stands_to_text source k x next s) n (cut_to_text source next xs c)

pub by_texts : (source : Text) (xs : List Lexeme) → CutFrom source 0 xs → Cut source xs
by_texts source xs c = cut_to_text source 0 xs c

pub by_places : (source : Text) (xs : List Lexeme) → Cut source xs → CutFrom source 0 xs
by_places source xs c = cut_from_text [] source xs c

-- the ignored tokens before a lexical error and the place of the error, by numbers of characters
pub record ThereAt (source : Text) (k : ℕ) (error : LexicalError) (at : Place) : Type 0 where
  pub ignored : ℕ
  pub size : ℕ
  pub longest_ignored : LongestAt AreIgnored (drop k source) ignored
  pub fails : FailsAt (drop (k + ignored) source) size error
  pub at_is : at ≡ place source ((k + ignored) + size)

pub there_from_text : (before left : Text) (error : LexicalError) (at : Place) → BreaksThere before left error at
    → ThereAt (before ++ left) (length before) error at
there_from_text before left error at b =
    let source : Text = before ++ left in
    let rest : drop (length before + length b.ignored) source ≡ b.front ++ b.after = past_ignored before left b.ignored (b.front ++ b.after) b.left_is in
    let size : length (b.ignored ++ b.front) ≡ length b.ignored + length b.front = length-append b.ignored b.front in
    let sum : (length before + length b.ignored) + length b.front ≡ length before + length (b.ignored ++ b.front) = omega (arith, size) in
    let up : take ((length before + length b.ignored) + length b.front) source ≡ before ++ (b.ignored ++ b.front) =
    ap (λ (i : ℕ). take i source) sum
    ∙ up_to_ignored before left (b.ignored ++ b.front) b.after
    (b.left_is ∙ sym (append_assoc b.ignored b.front b.after)) in
    record {
      ignored = length b.ignored;
      size = length b.front;
      longest_ignored = ignored_there before left b.ignored (b.front ++ b.after) b.left_is b.longest_ignored;
      fails = subst (λ (t : Text). FailsAt t (length b.front) error) (sym rest) (fails_from_text b.front b.after error b.fails);
      at_is = b.at_is ∙ ap position_after (sym up);
    }

pub breaks_from_text : (before left : Text) (error : LexicalError) (at : Place) → BreaksAfter before left error at
    → BreaksFrom (before ++ left) (length before) error at
breaks_from_text before left error at (form.here b) =
    let there = there_from_text before left error at b in
    subst (BreaksFrom (before ++ left) (length before) error) (sym there.at_is)
    (now.here there.longest_ignored there.fails)
breaks_from_text before left error at (form.later {done = done} {after = after} {x = x} s n b) =
    now.later (stands_from_text before left x done after s) n
    (subst (λ (t : Text). BreaksFrom t (length done) error at) (sym (done_whole before left x done after s)) (breaks_from_text done after error at b))

pub there_to_text : (source : Text) (k ignored size : ℕ) (error : LexicalError)
    → LongestAt AreIgnored (drop k source) ignored
    → FailsAt (drop (k + ignored) source) size error
    → BreaksThere (take k source) (drop k source) error (place source ((k + ignored) + size))
there_to_text source k ignored size error g f =
    let t = fails_to_text (drop (k + ignored) source) size error f in
    let text : Text = take ignored (drop k source) in
    let rest : drop ignored (drop k source) ≡ t.front ++ t.after = drop-drop ignored k source ∙ t.whole in
    let next : take size (drop (k + ignored) source) ≡ t.front =
    ap (take size) t.whole ∙ ap (λ (i : ℕ). take i (t.front ++ t.after)) t.place_is ∙ take-append_seam t.front t.after in
    record {
      ignored = text;
      front = t.front;
      after = t.after;
      left_is = sym (take-append-drop ignored (drop k source)) ∙ ap (λ (l : Text). text ++ l) rest;
      longest_ignored = subst (Longest AreIgnored text) rest (to_front AreIgnored (drop k source) ignored g);
      fails = t.fails;
      at_is = ap position_after (take-add (k + ignored) size source
          ∙ (ap₂ (λ (a b : Text). a ++ b) (take-add k ignored source) next
          ∙ append_assoc (take k source) text t.front));
    }

pub breaks_to_text : (source : Text) (k : ℕ) (error : LexicalError) (at : Place) → BreaksFrom source k error at
    → BreaksAfter (take k source) (drop k source) error at
breaks_to_text _ _ error _ (now.here {source} {k} {ignored} {size} g f) = form.here (there_to_text source k ignored size error g f)
breaks_to_text _ _ _ _ (now.later {source} {k} {next} {x} {error} {at} s n b) =
    form.later (stands_to_text source k x next s) n (breaks_to_text source next error at b)

pub breaks_by_texts : (source : Text) (error : LexicalError) (at : Place) → BreaksFrom source 0 error at → Breaks source error at
breaks_by_texts source error at b = breaks_to_text source 0 error at b

pub breaks_by_places : (source : Text) (error : LexicalError) (at : Place) → Breaks source error at → BreaksFrom source 0 error at
breaks_by_places source error at b = breaks_from_text [] source error at b

-- ---- fronts of cuts and breaks

pub leads_whole : (before left done after : Text) (xs : List Lexeme) → Leads before left xs done after
    → before ++ left ≡ done ++ after
leads_whole _ _ _ _ _ form.none = refl
leads_whole _ _ _ _ _ (form.more {before} {left} {done} {after} {end} {rest} {x} {xs} s e l) =
    done_whole before left x done after s ∙ leads_whole done after end rest xs l

pub leads_from_text : (before left done after : Text) (xs : List Lexeme) → Leads before left xs done after
    → LeadsAt (before ++ left) (length before) xs (length done)
leads_from_text _ _ _ _ _ form.none = refl
leads_from_text _ _ _ _ _ (form.more {before} {left} {done} {after} {end} {rest} {x} {xs} s e l) = (
  length done,
  stands_from_text before left x done after s,
  e,
  subst (λ (t : Text). LeadsAt t (length done) xs (length end)) (sym (done_whole before left x done after s))
      (leads_from_text done after end rest xs l),
)

pub leads_more : (before left middle rest done after : Text) (xs : List Lexeme) (x : Lexeme) → Leads before left xs middle rest
    → Stands middle rest x done after → x.kind ≢ EndOfFile → Leads before left (xs ++ x ∷ []) done after
leads_more _ _ _ _ done after _ x form.none s e = form.more s e form.none
leads_more _ _ _ _ done after _ x (form.more {end = end} {rest = rest} {xs = xs} t n l) s e =
    form.more t n (leads_more _ _ end rest done after xs x l s e)

pub cut_leads : (before left done after : Text) (front rest : List Lexeme) → Leads before left front done after
    → CutAfter done after rest → CutAfter before left (front ++ rest)
cut_leads _ _ _ _ _ rest form.none c = c
cut_leads _ _ _ _ _ rest (form.more {end = end} {rest = after} {xs = xs} s e l) c =
    form.token s e (cut_leads _ _ end after xs rest l c)

pub breaks_lead : (before left done after : Text) (front : List Lexeme) (error : LexicalError) (at : Place)
    → Leads before left front done after → BreaksAfter done after error at → BreaksAfter before left error at
breaks_lead _ _ _ _ _ error at form.none b = b
breaks_lead _ _ _ _ _ error at (form.more {end = end} {rest = after} {xs = xs} s e l) b =
    form.later s e (breaks_lead _ _ end after xs error at l b)
