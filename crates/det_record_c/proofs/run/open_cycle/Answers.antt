use Rattle.std.proofs.Common.{rules, ◌≡◌, ◌≤◌, ◌<◌, length, refl, arith}
use Rattle.c_types.specs.CValues.{input_of}
use Rattle.det_record_c.specs.Runs.{TakesCycle, IsSoundOpening}
use Rattle.det_record_c.proofs.Fields.{input_fields}
use Rattle.det_record_c.proofs.Written.{counted_fit}
use Rattle.det_record_c.proofs.Running.{is_opened}
use Rattle.det_record_c.proofs.run.open_cycle.Goals as goal

pub returns : goal.returns
returns c =
    let follows : TakesCycle c.args.state.now = search rules in
    let sound : IsSoundOpening c.args.state.now.events c.args.opening.now.samples.now c.args.opening.now.count = search rules in
    let small : length c.args.out.now < 18446744073709551615 = search rules in
    let le : c.put_opening-needed.result ≤ length c.args.out.now = search rules in
    let fits = counted_fit _ _ _ c.args.out.now _ c.put_opening-needed.ensures.puts le small in
    let same : c.copy_of.result ≡ c.args.state.now = search rules in (
      follows,
      sound,
      fits,
      is_opened c.args.state.now (input_of c.args.opening.now.time.now c.args.opening.now.samples.now) c.args.opening.now.count _ _ _ follows
          (input_fields c.args.state.now.events c.args.opening.now.time.now c.args.opening.now.samples.now c.put_opening.ensures.fields sound.0) sound.1
          (λ i. record { state = same i; left = c.args.opening.now.count }) c.put_opening.ensures.puts (omega (arith, small)) fits refl,
    )
