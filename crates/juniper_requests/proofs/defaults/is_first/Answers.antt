use Rattle.juniper_requests.proofs.Named.{seen_more}
use Rattle.juniper_requests.proofs.defaults.is_first.Goals as goal

pub returns-clause-seen : goal.returns-clause-seen
returns-clause-seen c names has =
    seen_more c.args.name.now c.args.seen.now c.insert.new.self names c.utf8.name c.in_ok-insert.ensures.updates has
