use Rattle.std.proofs.Common.{[], ◌∷◌, sym, ◌∙◌}
use Rattle.job.proofs.lemmas.event_cache.Rounds.{empty_rings}
use Rattle.det_client_c.proofs.window.det_window_new.Goals as goal

pub returns-clause-made : goal.returns-clause-made
returns-clause-made c = λ taken places spec capacity policy. record {
  rings = (λ i. record { policy = sym policy i; capacity = sym capacity i; seen = []; arriving = [] } ∷ []) ∙ empty_rings 0 (spec ∷ []);
}
