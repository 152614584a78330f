-- The numbers in an element of a built-in job: big-endian, one behind another, as the jobs put them.
use Rattle.std.specs.Prelude.{ℕ, List, [], ◌++◌, length, drop, take, nat_eq, nat_le, codes}
use Rattle.std.specs.Prelude.{Bool, false, Option, Some, None, decimal, if◌then◌else◌}
use Rattle.std.specs.Int.{w16, w32, w64, from_be_bytes, cast_signed}
use Rattle.det_values.specs.declared.job_kind.JobKind.{JobKind}
use Rattle.det_values.specs.declared.job_kind.JobKind.TheVariants.{Bank, Cloud, Guard}
use Rattle.det_values.specs.Jobs.{kind_of_number}
use Rattle.det_values.specs.Values.{ProfileValue}
use Rattle.record_json.specs.declared.element_layout.ElementLayout.{ElementLayout}
use Rattle.record_json.specs.declared.element_layout.ElementLayout.TheVariants.{Unknown, Level}
use Rattle.record_json.specs.declared.element_layout.ElementLayout.TheVariants.{Channel, Particle}
use Rattle.record_json.specs.declared.element_layout.ElementLayout.TheVariants.{Guarded}
use Rattle.record_json.specs.Texts.{signed_text}

-- the bank puts a channel's event only where it has two events or more
abbrev pub layout_by : Option JobKind → ℕ → ElementLayout
layout_by (Some Bank) events = if nat_le 2 events then Channel else Level
layout_by (Some Cloud) events = Particle
layout_by (Some Guard) events = Guarded
layout_by None events = Unknown

-- the layout of the elements of the job in a header
abbrev pub layout_of : ProfileValue → ElementLayout
layout_of profile = layout_by (kind_of_number profile.job) (length profile.events)

abbrev pub length_of : ElementLayout → Option ℕ
length_of Unknown = None
length_of Level = Some 8
length_of Channel = Some 10
length_of Particle = Some 20
length_of Guarded = Some 14

-- the number in the two bytes from a place on, in the four, and in the eight, which have a sign
abbrev pub u16_text : ℕ → List ℕ → List ℕ
u16_text at bytes = decimal (from_be_bytes w16 (take 2 (drop at bytes)))

abbrev pub u32_text : ℕ → List ℕ → List ℕ
u32_text at bytes = decimal (from_be_bytes w32 (take 4 (drop at bytes)))

abbrev pub i64_text : ℕ → List ℕ → List ℕ
i64_text at bytes = signed_text (cast_signed w64 (from_be_bytes w64 (take 8 (drop at bytes))))

-- the members of an object with the numbers of an element
abbrev pub numbers_text : ElementLayout → List ℕ → List ℕ
numbers_text Unknown bytes = []
numbers_text Level bytes = codes "\"level\":" ++ i64_text 0 bytes
numbers_text Channel bytes =
    codes "\"event\":" ++ (u16_text 0 bytes ++ (codes ",\"level\":" ++ i64_text 2 bytes))
numbers_text Particle bytes =
    codes "\"number\":" ++ (u32_text 0 bytes ++ (codes ",\"x\":" ++ (i64_text 4 bytes
    ++ (codes ",\"y\":" ++ i64_text 12 bytes))))
numbers_text Guarded bytes =
    codes "\"number\":" ++ (u32_text 0 bytes ++ (codes ",\"value\":" ++ (i64_text 4 bytes
    ++ (codes ",\"streak\":" ++ u16_text 12 bytes))))

abbrev pub has_length : Option ℕ → List ℕ → Bool
has_length None bytes = false
has_length (Some n) bytes = nat_eq (length bytes) n

-- nothing, if the job isn't a built-in one or the element has another length than its elements
abbrev pub fields_text : ElementLayout → List ℕ → List ℕ
fields_text layout bytes =
    if has_length (length_of layout) bytes
    then codes ",\"fields\":{" ++ (numbers_text layout bytes ++ codes "}") else []
