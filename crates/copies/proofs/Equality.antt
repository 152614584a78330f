-- The derived `==` of items decides whether they are equal.
use Rattle.std.proofs.Common.{◌≡◌, ℕ, nat_eq, List, ap}
use Rattle.std.specs.Bool.{Decides}
use Rattle.std.specs.Cmp.Lexicographic.{pointwise, pointwise_decides}
use Rattle.std.proofs.lemmas.Bool.Decides.{Decides-eqb, Decides-like}
use Rattle.det_values.specs.contracts.profile.ProfilePartialEq.TheImpl as profile
use Rattle.det_values.specs.contracts.frames.FramePartialEq.TheImpl as frame
use Rattle.det_values.proofs.Equality.{frame_decides, profile_decides}
use Rattle.record_grammar.specs.declared.item.Item.{Item}
use Rattle.record_grammar.specs.declared.item.Item.TheVariants as items
use Rattle.record_grammar.specs.contracts.item.ItemPartialEq.TheImpl as item

pub bytes_decide : (a b : List ℕ) → Decides (pointwise nat_eq a b) (a ≡ b)
bytes_decide a b = pointwise_decides Decides-eqb a b

pub item_decides : (a b : Item) → Decides (item.eq-value.it a b) (a ≡ b)
item_decides (items.Header p) (items.Header q) = Decides-like (profile.eq-value.it p q) (ap items.Header) (λ s. cc) (profile_decides p q)
item_decides (items.Frame f) (items.Frame g) = Decides-like (frame.eq-value.it f g) (ap items.Frame) (λ s. cc) (frame_decides f g)
item_decides a b = (λ h. absurd cc, λ h. absurd cc)
