use Rattle.juniper_tokens.specs.Tokens.{view_token}
use Rattle.juniper_tokens.proofs.ListParts.{closed, not_closed}
use Rattle.juniper_tokens.proofs.parser.Parser.take_closing.Goals as goal

pub returns-in-Ok-Some : goal.returns-in-Ok-Some
returns-in-Ok-Some g c = closed _ _ (view_token c.in-Ok-Some.token) _
    (rw c.in-Ok-Some.field-0-is at c.in-Ok-Some.ensures.gives) c.in-Ok-Some.ensures.rest

pub returns-in-Ok-None : goal.returns-in-Ok-None
returns-in-Ok-None g c = not_closed _ _ _ (rw c.in-Ok-None.field-0-is at c.in-Ok-None.ensures.gives)
