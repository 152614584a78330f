-- Which frame a view is of, by the view's kind.
use Rattle.std.proofs.Common.{◌≡◌, ℕ, ◌≤◌, List, drop, refl, subst}
use Rattle.det_values.specs.declared.frames.Frame.{Frame}
use Rattle.det_values.specs.declared.frames.Frame.TheVariants as frames
use Rattle.record_grammar.specs.declared.place.Place.{Place}
use Rattle.record_grammar.specs.Read.{Got, many}
use Rattle.record_grammar.specs.Grammar.{element_at}
use Rattle.record_view.specs.declared.view.FrameKind.{FrameKind}
use Rattle.record_view.specs.declared.view.FrameKind.TheVariants as kinds
use Rattle.record_view.specs.declared.view.FrameView.{FrameView}
use Rattle.record_view.specs.Shows.{ShowsFrame, IsFrameSpelling}

pub frame_parts : (view : FrameView) (frame : Frame) (bytes : List ℕ) (kind : FrameKind) → view.kind ≡ kind
    → IsFrameSpelling view frame bytes → ShowsFrame view.place kind view.len bytes frame
frame_parts view frame bytes kind is h =
    subst (λ (k : FrameKind). ShowsFrame view.place k view.len bytes frame) is h.shows.parts

-- the elements that the view of an Init frame shows
pub record IsInitOf (count len : ℕ) (bytes : List ℕ) (frame : Frame) : Type 0 where
  pub elements : List (List ℕ)
  pub is : frame ≡ frames.Init elements
  pub read : many element_at count (drop 5 bytes) ≡ Got (elements, drop len bytes)
  pub long : 5 ≤ len

init_by : (place : Place) (count len : ℕ) (bytes : List ℕ) (frame : Frame) → ShowsFrame place (kinds.Init count) len bytes frame
    → IsInitOf count len bytes frame
init_by place count len bytes (frames.Init es) h = record { elements = es; is = refl; read = h.0; long = h.1 }
init_by place count len bytes frame h = elim h [ ]

pub of_init : (view : FrameView) (count : ℕ) (frame : Frame) (bytes : List ℕ) → view.kind ≡ kinds.Init count
    → IsFrameSpelling view frame bytes → IsInitOf count view.len bytes frame
of_init view count frame bytes is h =
    init_by view.place count view.len bytes frame (frame_parts view frame bytes (kinds.Init count) is h)
