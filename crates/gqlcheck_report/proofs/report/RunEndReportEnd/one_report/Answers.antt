use Rattle.gqlcheck_report.proofs.OneReport.{one_report}
use Rattle.gqlcheck_report.proofs.report.RunEndReportEnd.one_report.Goals as goal

pub returns : goal.returns
returns c =
    one_report c.document_or_fault.ensures.one c.document_or_fault.ensures.never_both c.one_too_deep.ensures
    c.one_answer_within.ensures
