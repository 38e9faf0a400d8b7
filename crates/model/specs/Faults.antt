-- Refusals as the code hands them on: a fault has its number, and an outcome becomes the paper's refusal and the record
-- that crosses a call.
use Rattle.std.specs.Prelude.{ℕ, Result, Ok, Err}
use Rattle.model.specs.declared.Fault.{Fault}
use Rattle.model.specs.declared.Fault.TheVariants.{CutShort, BadBody, OutOfOrder, EdgeTooMany, BadSizes, OutOfRange}
use Rattle.model.specs.declared.Fault.TheVariants.{NotPinned, TooManyPairs, ShortEdges, NotReadable, ShortScratch}
use Rattle.model.specs.declared.Fault.TheVariants.{NoRoomForRow, NoRoomForCodes, OutOfShape, NoRoomForConfiguration}
use Rattle.model.specs.declared.Fault.TheVariants.{NoRoomForFile, BadGrain, BadCount, UnknownSymbol, FallingStamp}
use Rattle.model.specs.declared.Fault.TheVariants.{Strayed, OtherSymbols, NoRoomForStates, NoRoomForWord, BadSpan}
use Rattle.model.specs.declared.Fault.TheVariants.{NotListed, BadBatch, LongList}
use Rattle.model.specs.declared.Refused.{Refused}
use Rattle.model.specs.declared.Head.{Head}
use Rattle.model.specs.declared.Built.{Built}
use Rattle.model.specs.declared.Answer.{Answer}
use Rattle.model.specs.declared.Reading.{Reading}
use Rattle.model.specs.declared.Building.{Building}
use Rattle.model.specs.declared.Follower.{Follower}
use Rattle.model.specs.declared.Started.{Started}
use Rattle.model.specs.Basics.{Refusal, refusal, fine}
use Rattle.model.specs.Layout.{no_head}
use Rattle.model.specs.Tables.{no_built}
use Rattle.model.specs.Walks.{start_at}

abbrev pub fault_number : Fault → ℕ
fault_number CutShort = 1
fault_number BadBody = 2
fault_number OutOfOrder = 3
fault_number EdgeTooMany = 4
fault_number BadSizes = 5
fault_number OutOfRange = 6
fault_number NotPinned = 7
fault_number TooManyPairs = 8
fault_number ShortEdges = 20
fault_number NotReadable = 21
fault_number ShortScratch = 22
fault_number NoRoomForRow = 23
fault_number NoRoomForCodes = 24
fault_number OutOfShape = 25
fault_number NoRoomForConfiguration = 26
fault_number NoRoomForFile = 27
fault_number BadGrain = 30
fault_number BadCount = 31
fault_number UnknownSymbol = 32
fault_number FallingStamp = 33
fault_number Strayed = 34
fault_number OtherSymbols = 35
fault_number NoRoomForStates = 36
fault_number NoRoomForWord = 37
fault_number BadSpan = 38
fault_number NotListed = 39
fault_number BadBatch = 40
fault_number LongList = 43

-- a refusal of the call as a whole
abbrev pub at_once : Fault → Refused
at_once fault = record { fault = fault; place = 0 }

-- the refusal of an outcome; none where it gives a value
abbrev pub refusal_in : {A : Type 0} → Result A Refused → Refusal
refusal_in (Ok a) = fine
refusal_in (Err r) = refusal (fault_number r.fault) r.place

-- the records that cross a call, by the outcome
abbrev pub answer_in : {A : Type 0} → (A → ℕ) → Result A Refused → Answer
answer_in value (Ok a) = record { number = 0; place = 0; value = value a }
answer_in value (Err r) = record { number = fault_number r.fault; place = r.place; value = 0 }

abbrev pub reading_in : Result Head Refused → Reading
reading_in (Ok head) = record { number = 0; place = 0; head = head }
reading_in (Err r) = record { number = fault_number r.fault; place = r.place; head = no_head }

abbrev pub building_in : Result Built Refused → Building
building_in (Ok built) = record { number = 0; place = 0; built = built }
building_in (Err r) = record { number = fault_number r.fault; place = r.place; built = no_built }

abbrev pub started_in : Result Follower Refused → Started
started_in (Ok follower) = record { number = 0; place = 0; follower = follower }
started_in (Err r) = record { number = fault_number r.fault; place = r.place; follower = start_at 0 }
