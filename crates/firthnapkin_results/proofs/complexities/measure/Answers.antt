use Rattle.std.proofs.Common.{◌^◌, ◌<◌, ℕ, List, length, map, refl, ap, sym, subst, ◌∙◌, arith}
use Rattle.std.proofs.lemmas.List.{length-map}
use Rattle.std.specs.Str.{chars}
use Rattle.graphql_grammar.specs.Tree.{Definition}
use Rattle.graphql_nodes.specs.Nodes.{document_nodes}
use Rattle.juniper_complexity.specs.Faults.{OfUnknown, OfCycle, view_failure}
use Rattle.juniper_outlines.specs.Definitions.{own_complexities}
use Rattle.juniper_complexity.proofs.Public.{own_mean}
use Rattle.juniper_tokens.specs.Spans.{view_span}
use Rattle.juniper_values.specs.Scalar.{Content}
use Rattle.firthnapkin_results.specs.Answers.{HasDocument, Fills}
use Rattle.firthnapkin_results.specs.Complexities.{complexity_of}
use Rattle.firthnapkin_results.specs.declared.limits.Limits.{Limits}
use Rattle.firthnapkin_results.proofs.Bounds.{within_source, written-length}
use Rattle.firthnapkin_results.proofs.Fitting.{document_nodes_fit}
use Rattle.firthnapkin_results.proofs.SpreadSpans.{first_fits}
use Rattle.firthnapkin_results.proofs.Writing.{fills_all}
use Rattle.firthnapkin_results.proofs.complexities.measure.Goals as goal

few_nodes : (text : List ℕ) (limits : Limits) (tree : List (Definition Content)) → length text < 2 ^ 32
    → HasDocument text limits tree → length (document_nodes tree) < 2 ^ 32
few_nodes text limits tree short document =
    let within = within_source text limits tree document in
    omega (arith, within.0, written-length (chars text) 0 (document_nodes tree), short)

pub returns-then-have_no_spreads : goal.returns-then-have_no_spreads
returns-then-have_no_spreads c text limits tree on nn ot nt short table nodes gathered marks =
    let own = own_complexities 0 c.args.definitions.now in
    let have = own_mean c.args.definitions.now tree gathered
    (c.have_no_spreads.ensures.yes c.if-have_no_spreads.true) in
    let few = few_nodes text limits tree short nodes.document in
    let measured = map (complexity_of tree) own in (
      short,
      (
        tree,
        nodes,
        (
          measured,
          record { complexities = own; operations = have; are = refl },
          subst (Fills measured c.args.complexities.now)
              (sym (c.write_own_complexities-count.ensures.written tree marks few))
              (fills_all measured c.args.complexities.now),
          c.write_own_complexities-count.ensures.count ∙ sym (length-map own (complexity_of tree)),
        ),
      ),
    )

pub returns-in-Ok : goal.returns-in-Ok
returns-in-Ok c text limits tree on nn ot nt short table nodes gathered marks =
    let found = c.in-Ok.found.items in
    let have = c.in-Ok.ensures.complexities tree gathered in
    let few = few_nodes text limits tree short nodes.document in
    let measured = map (complexity_of tree) found in
    let written = rw c.deref.ensures.value at
    (c.write_complexities.ensures tree marks few (rw c.deref.ensures.value have)) in (
      short,
      (
        tree,
        nodes,
        (
          measured,
          record { complexities = found; operations = have; are = refl },
          subst (Fills measured c.args.complexities.now) (sym written) (fills_all measured c.args.complexities.now),
          omega (arith, c.len.ensures, length-map found (complexity_of tree)),
        ),
      ),
    )

pub returns-in-Err-Unknown : goal.returns-in-Err-Unknown
returns-in-Err-Unknown c text limits tree on nn ot nt short table nodes gathered marks =
    let span = view_span c.in-Err-Unknown.span in
    let first = c.in-Err-Unknown.ensures.failure tree gathered (OfUnknown span)
    (ap view_failure c.in-Err-Unknown.field-0-is) in
    let fits = first_fits tree first.0 (OfUnknown span)
    (document_nodes_fit text limits tree short nodes.document) first.1 in (
      short,
      (
        tree,
        nodes,
        (
          span,
          record { definition = first.0; error = first.1 },
          c.unknown_fragment_error.ensures (chars text) table fits,
          refl,
        ),
      ),
    )

pub returns-in-Err-Cycle : goal.returns-in-Err-Cycle
returns-in-Err-Cycle c text limits tree on nn ot nt short table nodes gathered marks =
    let span = view_span c.in-Err-Cycle.span in
    let first = c.in-Err-Cycle.ensures.failure tree gathered (OfCycle span)
    (ap view_failure c.in-Err-Cycle.field-0-is) in
    let fits = first_fits tree first.0 (OfCycle span)
    (document_nodes_fit text limits tree short nodes.document) first.1 in (
      short,
      (
        tree,
        nodes,
        (
          span,
          record { definition = first.0; error = first.1 },
          c.fragment_cycle_error.ensures (chars text) table fits,
          refl,
        ),
      ),
    )
