-- Texts of scalars.
use Rattle.std.proofs.lemmas.Str.{chars-nil}
use Rattle.juniper_nodes.proofs.Public.{shown_back}

-- no text, and one that a content holds
pub ruleset texts = (chars-nil, shown_back)
