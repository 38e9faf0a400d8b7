-- A record split off a file, its kind by its number there, and a location that a record adds.
use Rattle.std.specs.Prelude.{◌≡◌, false, List, ℕ, ◌+◌, ◌^◌, ◌≤◌, ◌<◌, length, take, drop, Result, Ok, Err}
use Rattle.model.specs.declared.Fault.{Fault}
use Rattle.model.specs.declared.Fault.TheVariants.{BadBody, OutOfOrder, OutOfRange}
use Rattle.model.specs.Basics.{refusal}
use Rattle.model.specs.Faults.{fault_number}
use Rattle.model.specs.Rules.{Rule}
use Rattle.model.specs.Files.{record_head, body_length, kind_of, body_of, body_ok, record_refusal}
use Rattle.reader.specs.declared.record.Kind.{Kind}
use Rattle.reader.specs.declared.record.Kind.TheVariants.{Sizes, Initial, Final, Ceiling, Plain, Grouped}

abbrev pub kind_number : Kind → ℕ
kind_number Sizes = 1
kind_number Initial = 2
kind_number Final = 3
kind_number Ceiling = 4
kind_number Plain = 5
kind_number Grouped = 6

-- a number read as a kind: the kind of that number, or 2 for a number that has no body of any length
abbrev pub KindRead : ℕ → Result Kind Fault → Type 0
KindRead n (Ok k) = kind_number k ≡ n
KindRead n (Err f) = (f ≡ BadBody) × ((size : ℕ) → body_ok n size ≡ false)

-- the record at the front of some bytes: refused with 1 or 2, or whole and with a body of a length that its kind has
pub record Refuses (s : List ℕ) (f : Fault) : Type 0 where
  pub refusal_is : (p last : ℕ) (r : Rule) → record_refusal p last r s ≡ refusal (fault_number f) p

pub record SplitOff (s : List ℕ) (k : Kind) (body after : List ℕ) : Type 0 where
  pub whole : record_head + body_length s ≤ length s
  pub kind_is : kind_number k ≡ kind_of s
  pub size_is : length body ≡ body_length s
  pub body_is : body ≡ take (body_length s) (body_of s)
  pub after_is : after ≡ drop (record_head + body_length s) s

-- why a location is refused: it does not rise, or the rule has no such location
pub data LocationRefused (least x count : ℕ) (f : Fault) : Type 0 where
  falls : x < least → f ≡ OutOfOrder → LocationRefused least x count f
  missing : least ≤ x → count ≤ x → f ≡ OutOfRange → LocationRefused least x count f

-- one location more
pub record LocationTaken (mask least x count mask' least' : ℕ) : Type 0 where
  pub rises : least ≤ x
  pub in_range : x < count
  pub mask_is : mask' ≡ mask + 2 ^ x
  pub least_is : least' ≡ x + 1
