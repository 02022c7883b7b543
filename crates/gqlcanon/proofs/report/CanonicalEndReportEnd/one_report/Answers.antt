use Rattle.gqlcanon.proofs.OneReport.{one_report}
use Rattle.gqlcanon.proofs.report.CanonicalEndReportEnd.one_report.Goals as goal

pub returns : goal.returns
returns c = one_report c.one_cut_or_break.ensures
