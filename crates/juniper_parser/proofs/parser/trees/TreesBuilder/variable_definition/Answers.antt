use Rattle.std.proofs.Common.{ap₂}
use Rattle.juniper_tree.specs.View.{view_word, view_value, view_spanned_type}
use Rattle.juniper_parser.proofs.BuiltTrees.{optional_shows, directives_show}
use Rattle.juniper_parser.proofs.parser.trees.TreesBuilder.variable_definition.Goals as goal

pub returns : goal.returns
returns g c first opened with_default v ds is_open some each =
    let content = g.S.ParseScalarValue.content in
    rw c.copied.ensures (ap₂ (λ w es. record {
      name = view_word c.args.name.now;
      of_type = view_spanned_type c.args.var_type;
      default = w;
      directives = es;
    })
    (optional_shows (view_value content) opened with_default c.args.default_value v some)
    (directives_show content with_default c.args.self.now c.args.directives ds each))
