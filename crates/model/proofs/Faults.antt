-- Refusals as the code hands them on: no fault has number 0, and the record by an outcome is the paper's by its
-- refusal.
use Rattle.std.specs.Prelude.{◌≡◌, Bool, false, ℕ, Result, Ok, Err}
use Rattle.std.proofs.Common.{refl, ap, sym}
use Rattle.model.specs.declared.Fault.{Fault}
use Rattle.model.specs.declared.Fault.TheVariants.{CutShort, BadBody, OutOfOrder, EdgeTooMany, BadSizes, OutOfRange}
use Rattle.model.specs.declared.Fault.TheVariants.{NotPinned, TooManyPairs, ShortEdges, NotReadable, ShortScratch}
use Rattle.model.specs.declared.Fault.TheVariants.{NoRoomForRow, NoRoomForCodes, OutOfShape, NoRoomForConfiguration}
use Rattle.model.specs.declared.Fault.TheVariants.{NoRoomForFile, BadGrain, BadCount, UnknownSymbol, FallingStamp}
use Rattle.model.specs.declared.Fault.TheVariants.{Strayed, OtherSymbols, NoRoomForStates, NoRoomForWord, BadSpan}
use Rattle.model.specs.declared.Fault.TheVariants.{NotListed, BadBatch, LongList}
use Rattle.model.specs.declared.Refused.{Refused}
use Rattle.model.specs.Basics.{refusal, passes, pick}
use Rattle.model.specs.Promises.{answer_of}
use Rattle.model.specs.Faults.{fault_number, refusal_in, answer_in}

-- every fault refuses
pub refuses : (f : Fault) (place : ℕ) → passes (refusal (fault_number f) place) ≡ false
refuses CutShort place = refl
refuses BadBody place = refl
refuses OutOfOrder place = refl
refuses EdgeTooMany place = refl
refuses BadSizes place = refl
refuses OutOfRange place = refl
refuses NotPinned place = refl
refuses TooManyPairs place = refl
refuses ShortEdges place = refl
refuses NotReadable place = refl
refuses ShortScratch place = refl
refuses NoRoomForRow place = refl
refuses NoRoomForCodes place = refl
refuses OutOfShape place = refl
refuses NoRoomForConfiguration place = refl
refuses NoRoomForFile place = refl
refuses BadGrain place = refl
refuses BadCount place = refl
refuses UnknownSymbol place = refl
refuses FallingStamp place = refl
refuses Strayed place = refl
refuses OtherSymbols place = refl
refuses NoRoomForStates place = refl
refuses NoRoomForWord place = refl
refuses BadSpan place = refl
refuses NotListed place = refl
refuses BadBatch place = refl
refuses LongList place = refl

-- the answer by an outcome is the answer by its refusal and its value
pub answer_by :
    {A : Type 0} (value : A → ℕ) (o : Result A Refused) (v : ℕ)
    → ((a : A) → o ≡ Ok a → value a ≡ v) → answer_in value o ≡ answer_of (refusal_in o) v
answer_by value (Ok a) v h = ap (λ (n : ℕ). answer_in (λ (k : ℕ). k) (Ok n)) (h a refl)
answer_by value (Err r) v h =
    ap
    (λ (b : Bool). record { number = fault_number r.fault; place = r.place; value = pick b v 0 })
    (sym (refuses r.fault r.place))
