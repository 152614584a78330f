-- The name of a room.
use Rattle.atomic_table.specs.Seated.{TableId}
use Rattle.tickets.specs.Offices.{name_of}
use Rattle.worker_pool.specs.declared.crew_room.CrewRoom.{CrewRoom}

abbrev pub room_name : {S G E L P : Type 0} → CrewRoom S G E L P → TableId
room_name room = name_of room.office
