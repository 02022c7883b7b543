use Rattle.std.proofs.Common.{Some, if◌then◌else◌, nat_eq, ap, ◌∙◌}
use Rattle.std.specs.Cmp.Lexicographic.{pointwise, slice_cmp}
use Rattle.std.specs.BTreeMap.{get_by}
use Rattle.std.specs.Ordering.{nat_cmp}
use Rattle.std.specs.Str.{chars}
use Rattle.std.proofs.lemmas.Map.Text.{btree_map_updates_str}
use Rattle.juniper_tokens.proofs.Public.{pointwise-chars}
use Rattle.juniper_outlines.proofs.names.put.Goals as goal

pub returns : goal.returns
returns c place knows =
    let name = c.args.name.now in
    let old = c.args.names.now in
    record {
      knows = λ q u. btree_map_updates_str name old c.insert.new.self _ c.in_ok-insert.ensures.updates q
          ∙ (ap (λ b. if b then Some c.args.at else get_by (λ k. slice_cmp nat_cmp q k.now) old)
          (pointwise-chars name q c.utf8.name u)
          ∙ ap (λ o. if pointwise nat_eq (chars name) (chars q) then Some c.args.at else o) (knows.knows q u));
    }
