use Rattle.juniper_tokens.proofs.ListParts.{opened, refused_step}
use Rattle.juniper_tokens.proofs.parser.Parser.take_opening.Goals as goal

pub returns-in-Ok : goal.returns-in-Ok
returns-in-Ok g c = opened _ _ _ _ c.in-Ok.ensures.gives c.in-Ok.ensures.shorter c.in-Ok.ensures.rest

pub returns-in-Err : goal.returns-in-Err
returns-in-Err g c = refused_step _ _ _ c.in-Err.failure _ _ c.from.ensures c.in-Err.ensures.gives
    c.in-Err.ensures.memory c.in-Err.ensures.rest
