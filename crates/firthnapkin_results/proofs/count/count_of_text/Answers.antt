use Rattle.juniper_tokens.specs.Spans.{view_span}
use Rattle.firthnapkin_results.proofs.TokenCounts.{many_fits}
use Rattle.firthnapkin_results.proofs.count.count_of_text.Goals as goal

pub returns-in_ok-reported-in-Some : goal.returns-in_ok-reported-in-Some
returns-in_ok-reported-in-Some c =
    let span = view_span c.in-Some.span in
    let more = c.in-Some.ensures.many in
    let fits = many_fits c.args.text.now c.utf8.text c.requires c.args.most span more in
    (c.requires, c.utf8.text, (span, more, c.in_ok-reported-in-Some.ensures fits))
