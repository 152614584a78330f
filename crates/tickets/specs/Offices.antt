-- The name of an office.
use Rattle.atomic_table.specs.Seated.{TableId}
use Rattle.tickets.specs.declared.office.Office.{Office}

abbrev pub name_of : {T : Type 0} → Office T → TableId
name_of office = office.table.shared.table_id
