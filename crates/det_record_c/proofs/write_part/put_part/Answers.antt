use Rattle.std.proofs.Common.{sym, subst}
use Rattle.c_types.specs.Places.{format_of}
use Rattle.det_record_c.specs.declared.part.Part.{Part}
use Rattle.det_record_c.specs.Parts.{item_in, IsSound, spelling_in, HasFields}
use Rattle.det_record_c.specs.Puts.{Puts}
use Rattle.det_record_c.proofs.Fields.{finished_puts, finished_fields, refused_fields, header_fields}
use Rattle.det_record_c.proofs.write_part.put_part.Goals as goal

pub returns-in-Header-clause-fields : goal.returns-in-Header-clause-fields
returns-in-Header-clause-fields c =
    subst (λ (p : Part). HasFields c.args.state.now (item_in c.args.state.now p)) (sym c.in-Header.is)
    (header_fields (format_of c.args.state.now.format) c.in-Header.profile.now c.in-Header.params.now c.in-Header.events.now
    c.put_header.ensures.job c.put_header.ensures.seed c.put_header.ensures.params
    (subst (λ (p : Part). IsSound c.args.state.now p) c.in-Header.is c.requires))

pub returns-in-Finished-clause-puts : goal.returns-in-Finished-clause-puts
returns-in-Finished-clause-puts c =
    subst (λ (p : Part). Puts 0 (spelling_in c.args.state.now (item_in c.args.state.now p)) c.args.out.now c.put_finished.result
    c.put_finished.new.out) (sym c.in-Finished.is)
    (finished_puts c.format_from_number-kept.result (format_of c.args.state.now.format) c.in-Finished.time.now c.in-Finished.samples.now
    c.in-Finished.elements.now c.in-Finished.output.now _ _ _ c.format_from_number-kept.ensures c.put_finished.ensures.puts)

pub returns-in-Finished-clause-fields : goal.returns-in-Finished-clause-fields
returns-in-Finished-clause-fields c =
    subst (λ (p : Part). HasFields c.args.state.now (item_in c.args.state.now p)) (sym c.in-Finished.is)
    (finished_fields c.format_from_number-kept.result (format_of c.args.state.now.format) c.args.state.now.events c.in-Finished.time.now
    c.in-Finished.samples.now c.in-Finished.elements.now c.in-Finished.output.now c.format_from_number-kept.ensures c.put_finished.ensures.time
    c.put_finished.ensures.elements c.put_finished.ensures.output
    (subst (λ (p : Part). IsSound c.args.state.now p) c.in-Finished.is c.requires))

pub returns-in-Refused-clause-fields : goal.returns-in-Refused-clause-fields
returns-in-Refused-clause-fields c =
    subst (λ (p : Part). HasFields c.args.state.now (item_in c.args.state.now p)) (sym c.in-Refused.is)
    (refused_fields (format_of c.args.state.now.format) c.args.state.now.events c.in-Refused.time.now c.in-Refused.samples.now
    c.in-Refused.refusal.now c.put_refused.ensures.time c.put_refused.ensures.code
    (subst (λ (p : Part). IsSound c.args.state.now p) c.in-Refused.is c.requires))
