use Rattle.std.proofs.Common.{refl, rules}
use Rattle.juniper_tokens.specs.Delimited.{HasNoItem}
use Rattle.juniper_tokens.proofs.parser.Parser.take_item.Goals as goal

pub returns : goal.returns
returns g c = (
  c.in_ok-item.item,
  record {
    given = _;
    given_is = refl;
    left = _;
    called = c.in_ok-item.ensures;
    left_is = refl;
  },
  search rules,
)

pub returns-then-is_err : goal.returns-then-is_err
returns-then-is_err g c = HasNoItem.no_memory c.in_ok-item.item
    (record { given = _; given_is = refl; left = _; called = c.in_ok-item.ensures; left_is = refl }) c.from.ensures
