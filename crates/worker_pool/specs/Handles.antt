-- The parts of a table and a seat that clauses use.
use Rattle.std.specs.Prelude.{◌≡◌, ℕ}
use Rattle.worker_pool.specs.declared.pool_view.PoolView.{PoolView}
use Rattle.worker_pool.specs.declared.seat.PassTable.{PassTable}
use Rattle.worker_pool.specs.declared.seat.PassSeat.{PassSeat}

-- the facts that the worker with this seat knows
abbrev pub view_of : PassSeat → PoolView
view_of s = s.seat.me.0

-- the place of the seat's view among the views of the table
abbrev pub number_of : PassSeat → ℕ
number_of s = s.seat.id

-- the number of blocks of a table's pass
abbrev pub block_count : PassTable → ℕ
block_count t = t.blocks

-- the seat is one of this table
abbrev pub IsAt : PassSeat → PassTable → Type 0
IsAt s t = s.seat.table_id ≡ t.table.shared.table_id

-- one seat, with another view
abbrev pub IsSameSeat : PassSeat → PassSeat → Type 0
IsSameSeat s t = (s.seat.table_id ≡ t.seat.table_id) × (s.seat.id ≡ t.seat.id)
