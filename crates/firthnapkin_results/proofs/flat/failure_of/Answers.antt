use Rattle.std.specs.Str.{chars}
use Rattle.graphql_grammar.specs.Grammar.{IsLocated, IsType, IsValue}
use Rattle.juniper_documents.specs.Literals.{NamesTypeError, NamesValueError}
use Rattle.firthnapkin_results.specs.Answers.{scalars}
use Rattle.firthnapkin_results.proofs.Fitting.{deep_fits, deep_literal_fits, literal_refusal_fits, refusal_fits}
use Rattle.firthnapkin_results.proofs.TokenCounts.{many_fits}
use Rattle.firthnapkin_results.proofs.flat.failure_of.Goals as goal

pub returns-in-Parse-Refused-clause-document : goal.returns-in-Parse-Refused-clause-document
returns-in-Parse-Refused-clause-document c text limits utf8 short table says =
    let given = rw (c.in-Parse-Refused.is, c.in-Parse-Refused.field-0-is) at says in
    let fits = refusal_fits text utf8 short _ given.0 in (
      _,
      record { utf8 = utf8; refusal = given.0; within = given.1; few = given.2 },
      c.written_error.ensures (chars text) table fits,
    )

pub returns-in-Parse-Refused-clause-value : goal.returns-in-Parse-Refused-clause-value
returns-in-Parse-Refused-clause-value c free text limits utf8 short table says =
    let given = rw (c.in-Parse-Refused.is, c.in-Parse-Refused.field-0-is) at says in
    let fits = literal_refusal_fits text utf8 short (IsLocated (IsValue scalars free)) (NamesValueError scalars free) _
    given.0 in (
      _,
      record { utf8 = utf8; refusal = given.0; within = given.1; few = given.2 },
      c.written_error.ensures (chars text) table fits,
    )

pub returns-in-Parse-Refused-clause-of_type : goal.returns-in-Parse-Refused-clause-of_type
returns-in-Parse-Refused-clause-of_type c text limits utf8 short table says =
    let given = rw (c.in-Parse-Refused.is, c.in-Parse-Refused.field-0-is) at says in
    let fits = literal_refusal_fits text utf8 short (IsLocated IsType) NamesTypeError _ given.0 in (
      _,
      record { utf8 = utf8; refusal = given.0; within = given.1; few = given.2 },
      c.written_error.ensures (chars text) table fits,
    )

pub returns-in-TooDeep-clause-document : goal.returns-in-TooDeep-clause-document
returns-in-TooDeep-clause-document c text limits utf8 short table says =
    let given = rw (c.in-TooDeep.is) at says in
    let fits = deep_fits text utf8 short limits.depth _ given.0 in
    (_, record { utf8 = utf8; deep = given.0; few = given.1 }, c.too_deep_error.ensures (chars text) table fits)

pub returns-in-TooDeep-clause-value : goal.returns-in-TooDeep-clause-value
returns-in-TooDeep-clause-value c free text limits utf8 short table says =
    let given = rw (c.in-TooDeep.is) at says in
    let fits = deep_literal_fits text utf8 short (IsLocated (IsValue scalars free)) limits.depth _ given.0 in
    (_, record { utf8 = utf8; deep = given.0; few = given.1 }, c.too_deep_error.ensures (chars text) table fits)

pub returns-in-TooDeep-clause-of_type : goal.returns-in-TooDeep-clause-of_type
returns-in-TooDeep-clause-of_type c text limits utf8 short table says =
    let given = rw (c.in-TooDeep.is) at says in
    let fits = deep_literal_fits text utf8 short (IsLocated IsType) limits.depth _ given.0 in
    (_, record { utf8 = utf8; deep = given.0; few = given.1 }, c.too_deep_error.ensures (chars text) table fits)

pub returns-in-TooMany-clause-document : goal.returns-in-TooMany-clause-document
returns-in-TooMany-clause-document c text limits utf8 short table says =
    let given = rw (c.in-TooMany.is) at says in
    let fits = many_fits text utf8 short limits.tokens _ given.0 in
    (_, record { utf8 = utf8; many = given.0 }, c.too_many_tokens_error.ensures (chars text) table fits)

pub returns-in-TooMany-clause-value : goal.returns-in-TooMany-clause-value
returns-in-TooMany-clause-value c free text limits utf8 short table says =
    let given = rw (c.in-TooMany.is) at says in
    let fits = many_fits text utf8 short limits.tokens _ given.0 in
    (_, record { utf8 = utf8; many = given.0 }, c.too_many_tokens_error.ensures (chars text) table fits)

pub returns-in-TooMany-clause-of_type : goal.returns-in-TooMany-clause-of_type
returns-in-TooMany-clause-of_type c text limits utf8 short table says =
    let given = rw (c.in-TooMany.is) at says in
    let fits = many_fits text utf8 short limits.tokens _ given.0 in
    (_, record { utf8 = utf8; many = given.0 }, c.too_many_tokens_error.ensures (chars text) table fits)
