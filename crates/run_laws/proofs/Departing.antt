-- Frames depart from equal ones nowhere, and as many frames that depart nowhere are equal.
use Rattle.std.proofs.Common.{◌≡◌, ℕ, suc, List, [], ◌∷◌, ◌++◌, length, cond, Option, Some, None, refl, ap, ◌∙◌, arith}
use Rattle.std.specs.Option.{is_none, option_or}
use Rattle.det_values.specs.declared.frames.Frame.{Frame}
use Rattle.copies.specs.declared.difference.Difference.{Difference}
use Rattle.copies.specs.FirstDifference.{frame_difference}
use Rattle.copies.proofs.FirstDifference.{frame-apart}
use Rattle.rerun.specs.checker.Departure.{agreeing_count, departure_from}

-- a frame and itself have no difference
no_difference : (number : ℕ) (frame : Frame) → frame_difference number frame frame ≡ None
no_difference number frame = (frame-apart number frame frame).1 refl

-- frames depart nowhere from those that begin with them
pub departs_nowhere : (number : ℕ) (frames more : List Frame) → departure_from number frames (frames ++ more) ≡ None
unfolding departure_from
departs_nowhere number [] more = refl
departs_nowhere number (f ∷ frames) more =
    ap (λ (o : Option Difference). option_or o (departure_from (suc number) frames (frames ++ more))) (no_difference number f)
    ∙ departs_nowhere (suc number) frames more

-- and all of them agree
pub all_agree : (number : ℕ) (frames more : List Frame) → agreeing_count number frames (frames ++ more) ≡ length frames
unfolding agreeing_count
all_agree number [] more = refl
all_agree number (f ∷ frames) more =
    ap (λ (o : Option Difference). cond (is_none o) (suc (agreeing_count (suc number) frames (frames ++ more))) 0) (no_difference number f)
    ∙ ap suc (all_agree (suc number) frames more)

both_none : (a b : Option Difference) → option_or a b ≡ None → (a ≡ None) × (b ≡ None)
both_none (Some at) b e = absurd cc
both_none None b e = (refl, e)

-- as many frames that depart nowhere are the same
pub same_frames : (number : ℕ) (frames given : List Frame) → length frames ≡ length given → departure_from number frames given ≡ None
    → frames ≡ given
unfolding departure_from
same_frames number [] [] many none = refl
same_frames number [] (g ∷ given) many none = absurd (omega arith)
same_frames number (f ∷ frames) [] many none = absurd (omega arith)
same_frames number (f ∷ frames) (g ∷ given) many none =
    let both = both_none (frame_difference number f g) (departure_from (suc number) frames given) none in
    ap (λ (x : Frame). x ∷ frames) ((frame-apart number f g).0 both.0)
    ∙ ap (λ (xs : List Frame). g ∷ xs) (same_frames (suc number) frames given (omega arith) both.1)
