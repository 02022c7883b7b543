use Rattle.std.proofs.Common.{position, string_bytes, sym, ap, ◌∙◌}
use Rattle.std.specs.Map.{keys_of}
use Rattle.std.specs.String.{string_eq}
use Rattle.indexmap.proofs.MapLemmas.{Found-position, Missing-position, insert_entry-first, insert_entry-absent}
use Rattle.juniper_answers.specs.Entries.{entries_of}
use Rattle.juniper_answers.specs.Keys.{has_text}
use Rattle.juniper_answers.proofs.Sides.{on_err_always}
use Rattle.juniper_answers.proofs.entries.Entries.insert.Goals as goal

pub replace-requires : goal.replace-requires
replace-requires g c = (Found-position (has_text c.as_str.result.now) (entries_of c.args.self.now) _
    (sym c.in-Some.ensures)).within

pub append-requires : goal.append-requires
append-requires g c = (Missing-position (has_text (string_bytes c.args.key)) (entries_of c.args.self.now)
    (sym (c.in-None.ensures ∙ ap (λ bs. position (has_text bs) (keys_of (entries_of c.args.self.now)))
    c.as_str.ensures.value))).value

pub returns-in-Some-clause-old : goal.returns-in-Some-clause-old
returns-in-Some-clause-old g c =
    let f = Found-position (has_text (string_bytes c.args.key)) (entries_of c.args.self.now) _
    (sym (c.in-Some.ensures ∙ ap (λ bs. position (has_text bs) (keys_of (entries_of c.args.self.now)))
    c.as_str.ensures.value)) in
    sym (f.value ∙ c.replace.ensures.took)

pub returns-in-Some-clause-put : goal.returns-in-Some-clause-put
returns-in-Some-clause-put g c =
    let f = Found-position (has_text (string_bytes c.args.key)) (entries_of c.args.self.now) _
    (sym (c.in-Some.ensures ∙ ap (λ bs. position (has_text bs) (keys_of (entries_of c.args.self.now)))
    c.as_str.ensures.value)) in
    c.replace.ensures.after ∙ sym (insert_entry-first string_eq c.args.key c.args.value (entries_of c.args.self.now) _
    f.first)

pub returns-in_ok-append-in-None-clause-old : goal.returns-in_ok-append-in-None-clause-old
returns-in_ok-append-in-None-clause-old g c =
    let m = Missing-position (has_text (string_bytes c.args.key)) (entries_of c.args.self.now)
    (sym (c.in-None.ensures ∙ ap (λ bs. position (has_text bs) (keys_of (entries_of c.args.self.now)))
    c.as_str.ensures.value)) in
    sym m.value

pub returns-in_ok-append-in-None-clause-put : goal.returns-in_ok-append-in-None-clause-put
returns-in_ok-append-in-None-clause-put g c =
    let m = Missing-position (has_text (string_bytes c.args.key)) (entries_of c.args.self.now)
    (sym (c.in-None.ensures ∙ ap (λ bs. position (has_text bs) (keys_of (entries_of c.args.self.now)))
    c.as_str.ensures.value)) in
    c.in_ok-append-in-None.ensures.put ∙ sym (insert_entry-absent string_eq c.args.key c.args.value
    (entries_of c.args.self.now) m.absent)

pub returns-in_err-append-in-None-clause-absent : goal.returns-in_err-append-in-None-clause-absent
returns-in_err-append-in-None-clause-absent g c =
    let m = Missing-position (has_text (string_bytes c.args.key)) (entries_of c.args.self.now)
    (sym (c.in-None.ensures ∙ ap (λ bs. position (has_text bs) (keys_of (entries_of c.args.self.now)))
    c.as_str.ensures.value)) in
    on_err_always c.from_residual.result _ m.value
