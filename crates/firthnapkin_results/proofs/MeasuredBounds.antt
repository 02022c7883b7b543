-- A source is as long as there are operations, nodes and bytes of texts in it.
use Rattle.std.proofs.Common.{ℕ, ◌≤◌, List, length, ap, arith}
use Rattle.std.proofs.lemmas.List.{length-map}
use Rattle.std.specs.Prelude.{Result, Ok, Err}
use Rattle.std.specs.Str.{chars}
use Rattle.graphql_nodes.specs.Nodes.{document_nodes}
use Rattle.firthnapkin_results.specs.Complexities.{IfNodes, ReturnsMeasured, complexity_of}
use Rattle.firthnapkin_results.specs.declared.limits.Limits.{Limits}
use Rattle.firthnapkin_results.specs.declared.node.Node.{Node}
use Rattle.firthnapkin_results.specs.declared.complexity.Complexity.{Complexity}
use Rattle.firthnapkin_results.specs.declared.source.Unread.{Unread}
use Rattle.firthnapkin_results.specs.declared.complexities.Measured.{Measured}
use Rattle.firthnapkin_results.specs.declared.complexities.Measured.TheVariants as measured
use Rattle.firthnapkin_results.proofs.Bounds.{within_source, written-length}
use Rattle.firthnapkin_results.proofs.OperationComplexities.{few_complexities}

pub measured_within : (source : List ℕ) (limits : Limits) (old_nodes new_nodes : List Node)
    (old_texts new_texts : List ℕ)
    (old_complexities new_complexities : List Complexity) (result : Result Measured Unread)
    → ReturnsMeasured source limits old_nodes new_nodes old_texts new_texts old_complexities new_complexities result
    → IfNodes result (λ lengths count. (lengths.nodes ≤ length source) × (lengths.texts ≤ length source)
    × (count ≤ length source))
measured_within source limits on nn ot nt os ns (Ok (measured.Tree lengths count)) h =
    let tree = h.1.0 in
    let within = within_source source limits tree h.1.1.document in
    let have = h.1.2.1 in
    let few = few_complexities tree have.complexities have.operations in
    let many = ap length have.are in
    let same = length-map have.complexities (complexity_of tree) in
    let written = written-length (chars source) 0 (document_nodes tree) in (
      omega (arith, within.0, h.1.1.written.nodes_count),
      omega (arith, within.1, h.1.1.written.texts_count),
      omega (arith, within.0, few, many, same, written, h.1.2.3),
    )
measured_within source limits on nn ot nt os ns (Ok (measured.Unknown lengths error)) h =
    let within = within_source source limits h.1.0 h.1.1.document in (
      omega (arith, within.0, h.1.1.written.nodes_count),
      omega (arith, within.1, h.1.1.written.texts_count),
      omega
          arith,
    )
measured_within source limits on nn ot nt os ns (Ok (measured.Cycle lengths error)) h =
    let within = within_source source limits h.1.0 h.1.1.document in (
      omega (arith, within.0, h.1.1.written.nodes_count),
      omega (arith, within.1, h.1.1.written.texts_count),
      omega
          arith,
    )
measured_within source limits on nn ot nt os ns (Ok (measured.Refused error)) h = tt
measured_within source limits on nn ot nt os ns (Ok (measured.TooDeep error)) h = tt
measured_within source limits on nn ot nt os ns (Ok (measured.TooMany error)) h = tt
measured_within source limits on nn ot nt os ns (Err unread) h = tt
