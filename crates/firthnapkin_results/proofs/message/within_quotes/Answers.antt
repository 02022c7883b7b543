use Rattle.std.proofs.Common.{ap, sym, ◌∙◌, ◌∷◌, [], ◌++◌, List, ℕ, arith, Some, get_or}
use Rattle.std.specs.Prelude.{encode_utf8_all}
use Rattle.std.proofs.lemmas.Str.Pattern.{strip_prefix_char, strip_suffix_char}
use Rattle.firthnapkin_results.proofs.Quotes.{encode_quote, quoted_bytes, quoted_characters, first_byte, first_character, same_between, tail_same}
use Rattle.firthnapkin_results.proofs.message.within_quotes.Goals as goal

pub returns-in_err-strip_prefix : goal.returns-in_err-strip_prefix
returns-in_err-strip_prefix c = rw c.from_residual.ensures (λ text q.
    let rest = encode_utf8_all text ++ 34 ∷ [] in
    c.in_err-strip_prefix.ensures.cases rest
    (quoted_bytes c.args.written.now text c.utf8.written q.0 ∙ ap (λ (a : List ℕ). a ++ rest) (sym encode_quote)))

pub returns-in_err-text : goal.returns-in_err-text
returns-in_err-text c = rw c.from_residual-in_err-text.ensures (λ text q.
    let rest = strip_prefix_char 34 c.args.written.now (Some c.in_ok-strip_prefix.field-0)
    c.in_ok-strip_prefix.ensures.cases (omega arith) in
    let all = quoted_bytes c.args.written.now text c.utf8.written q.0 in
    c.in_err-text.ensures.cases (encode_utf8_all text)
    (tail_same _ _ (sym rest ∙ all) ∙ ap (λ (a : List ℕ). encode_utf8_all text ++ a) (sym encode_quote)))

pub returns-then-begins_with_quote : goal.returns-then-begins_with_quote
returns-then-begins_with_quote c = λ text q.
    let rest = strip_prefix_char 34 c.args.written.now (Some c.in_ok-strip_prefix.field-0)
    c.in_ok-strip_prefix.ensures.cases (omega arith) in
    let front = strip_suffix_char 34 c.in_ok-strip_prefix.field-0.now (Some c.in_ok-text.text)
    c.in_ok-text.ensures.cases (omega arith) in
    let same = same_between c.args.written.now (encode_utf8_all text) c.in_ok-text.text.now
    (quoted_bytes c.args.written.now text c.utf8.written q.0) (rest ∙ ap (λ (a : List ℕ). 34 ∷ a) front) in
    let quote = first_character text
    (ap (λ (a : List ℕ). get_or a 0 0) same ∙ c.begins_with_quote.ensures.yes c.if-begins_with_quote.true) in
    q.1 quote.0 quote.1

pub returns-else-begins_with_quote : goal.returns-else-begins_with_quote
returns-else-begins_with_quote c =
    let rest = strip_prefix_char 34 c.args.written.now (Some c.in_ok-strip_prefix.field-0)
    c.in_ok-strip_prefix.ensures.cases (omega arith) in
    let front = strip_suffix_char 34 c.in_ok-strip_prefix.field-0.now (Some c.in_ok-text.text)
    c.in_ok-text.ensures.cases (omega arith) in (
      quoted_characters c.args.written.now c.in_ok-text.text.now c.utf8.written c.begins_with_quote.ensures.utf8
          (rest ∙ ap (λ (a : List ℕ). 34 ∷ a) front),
      λ rest e. c.begins_with_quote.ensures.no c.if-begins_with_quote.false
          (first_byte c.in_ok-text.text.now rest c.begins_with_quote.ensures.utf8 e),
    )
