use Rattle.config_text.specs.Document.{document_of, table_faults}
use Rattle.config_text.proofs.Readings.{refused_document, refused_parts}
use Rattle.config_text.proofs.read.read_tables.Goals as goal

pub returns-in_err-table-clause-faults : goal.returns-in_err-table-clause-faults
unfolding table_faults
returns-in_err-table-clause-faults c = refused_document c.from_residual.result _ (document_of c.args.text.now) c.from_residual.ensures c.in_err-table.ensures.fault

pub returns-clause-faults : goal.returns-clause-faults
unfolding table_faults
returns-clause-faults c =
    refused_parts c.told.result c.in-Err.refusal (document_of c.args.text.now) _ c.in_ok-table.ensures.read c.in-Err.ensures.1 c.told.ensures
