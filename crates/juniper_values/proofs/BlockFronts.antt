-- Blank lines at the beginning of a block string are skipped character by character.
use Rattle.std.proofs.Common.{◌≡◌, refl, sym, ap, ◌∙◌, ℕ, Bool, true, false, List, [], ◌∷◌, drop, MatchBool}
use Rattle.std.specs.List.{onto_first}
use Rattle.juniper_values.specs.Text.{Text}
use Rattle.graphql_lexical.specs.Characters.{is_line_end}
use Rattle.juniper_values.specs.BlockStrings.{is_indent, drop_blank_front}
use Rattle.juniper_values.specs.device.BlockSteps.{lines_of, begins_blank, is_left_out}
use Rattle.juniper_values.proofs.BlockLines.{left_out, line_ended, line_goes_on, others_stay}
use Rattle.juniper_values.proofs.BlockEnds.{front_goes, front_stays}

-- Of the lines `all`, those before the ones from `start` on are blank. So is what is read of the first of these, up to
-- `rest`.
pub record Skips (all start rest : List Text) (skipped : Bool) : Type 0 where
  pub front : drop_blank_front all ≡ drop_blank_front start
  pub first : MatchBool skipped (begins_blank all ≡ true) (start ≡ all)
  pub blank : begins_blank start ≡ begins_blank rest
  pub others : drop 1 start ≡ drop 1 rest

white_first : (c : ℕ) (ls : List Text) → is_indent c ≡ true → begins_blank (onto_first c ls) ≡ begins_blank ls
white_first c [] e = rw e refl
white_first c (line ∷ ls) e = rw e refl

filled_first : (c : ℕ) (ls : List Text) → is_indent c ≡ false → begins_blank (onto_first c ls) ≡ false
filled_first c [] e = rw e refl
filled_first c (line ∷ ls) e = rw e refl

pub none_skipped : (all : List Text) → Skips all all all false
none_skipped all = record { front = refl; first = refl; blank = refl; others = refl }

module _ (all start : List Text) (skipped : Bool) (c : ℕ) (t u : Text) (is : u ≡ c ∷ t)
    (s : Skips all start (lines_of u) skipped) where
  pub skip_left_out : is_left_out c t ≡ true → Skips all start (lines_of t) skipped
  skip_left_out e =
      let same = ap lines_of is ∙ left_out c t e in
      record {
        front = s.front;
        first = s.first;
        blank = s.blank ∙ ap begins_blank same;
        others = s.others ∙ ap (drop 1) same;
      }

  pub skip_white : is_left_out c t ≡ false → is_line_end c ≡ false → is_indent c ≡ true
      → Skips all start (lines_of t) skipped
  skip_white e on white =
      let same = ap lines_of is ∙ line_goes_on c t e on in
      record {
        front = s.front;
        first = s.first;
        blank = s.blank ∙ ap begins_blank same ∙ white_first c (lines_of t) white;
        others = s.others ∙ ap (drop 1) same ∙ others_stay c (lines_of t);
      }

  pub skip_line : is_left_out c t ≡ false → is_line_end c ≡ true → Skips all (lines_of t) (lines_of t) true
  skip_line e on =
      let same = ap lines_of is ∙ line_ended c t e on in
      let blank : begins_blank start ≡ true = s.blank ∙ ap begins_blank same in
      let first : (b : Bool) → MatchBool b (begins_blank all ≡ true) (start ≡ all) → begins_blank all ≡ true =
      elim [ true ↦ λ h. h | false ↦ λ h. sym (ap begins_blank h) ∙ blank ] in
      record {
        front = s.front ∙ front_goes start blank ∙ ap drop_blank_front (s.others ∙ ap (drop 1) same);
        first = first skipped s.first;
        blank = refl;
        others = refl;
      }

  module _ (e : is_left_out c t ≡ false) (on : is_line_end c ≡ false) (filled : is_indent c ≡ false) where
    begins_filled : begins_blank start ≡ false
    begins_filled =
        s.blank ∙ ap begins_blank (ap lines_of is ∙ line_goes_on c t e on) ∙ filled_first c (lines_of t) filled

    pub skips_all : drop_blank_front all ≡ start
    skips_all = s.front ∙ front_stays start begins_filled

    pub skips_some : skipped ≡ begins_blank all
    skips_some = by_test skipped s.first
      where
        by_test : (b : Bool) → MatchBool b (begins_blank all ≡ true) (start ≡ all) → b ≡ begins_blank all
        by_test true h = sym h
        by_test false h = sym begins_filled ∙ ap begins_blank h

pub all_skipped : (all start : List Text) (skipped : Bool) (u : Text) → u ≡ [] → Skips all start (lines_of u) skipped
    → drop_blank_front all ≡ []
all_skipped all start skipped u none s =
    let end = ap lines_of none in
    s.front ∙ front_goes start (s.blank ∙ ap begins_blank end)
    ∙ ap drop_blank_front (s.others ∙ ap (drop 1) end)
