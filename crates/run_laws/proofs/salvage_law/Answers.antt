use Rattle.run_laws.proofs.Salvaged.{salvaged_is_whole}
use Rattle.run_laws.proofs.RecordsSalvaged.{record_is_salvaged}
use Rattle.run_laws.proofs.salvage_law.Goals as goal

pub returns-clause-whole : goal.returns-clause-whole
returns-clause-whole c = salvaged_is_whole

pub returns-clause-record : goal.returns-clause-record
returns-clause-record c = record_is_salvaged
