-- The order of the kinds is that of their numbers.
use Rattle.std.proofs.Common.{◌≡◌, refl, List, [], ◌∷◌, slice_index_or, is_lt, int_cmp}
use denote.Enum.Declared.{tag_of}
use lib.Dec.{ltb}
use lib.IntN.{ℤ, pos}
use Rattle.reader.specs.contracts.record.Kind.{the_type}
use Rattle.reader.specs.declared.record.Kind.{Kind}
use Rattle.reader.specs.declared.record.Kind.TheVariants.{Sizes, Initial, Final, Ceiling, Plain, Grouped}
use Rattle.reader.specs.Records.{kind_number}

abbrev kinds : List ℤ
kinds = pos 1 ∷ pos 2 ∷ pos 3 ∷ pos 4 ∷ pos 5 ∷ pos 6 ∷ []

pub kind_less :
    (a b : Kind) (d : ℤ)
    → is_lt (int_cmp (slice_index_or kinds (tag_of the_type a) d) (slice_index_or kinds (tag_of the_type b) d))
    ≡ ltb (kind_number a) (kind_number b)
kind_less Sizes Sizes d = refl
kind_less Sizes Initial d = refl
kind_less Sizes Final d = refl
kind_less Sizes Ceiling d = refl
kind_less Sizes Plain d = refl
kind_less Sizes Grouped d = refl
kind_less Initial Sizes d = refl
kind_less Initial Initial d = refl
kind_less Initial Final d = refl
kind_less Initial Ceiling d = refl
kind_less Initial Plain d = refl
kind_less Initial Grouped d = refl
kind_less Final Sizes d = refl
kind_less Final Initial d = refl
kind_less Final Final d = refl
kind_less Final Ceiling d = refl
kind_less Final Plain d = refl
kind_less Final Grouped d = refl
kind_less Ceiling Sizes d = refl
kind_less Ceiling Initial d = refl
kind_less Ceiling Final d = refl
kind_less Ceiling Ceiling d = refl
kind_less Ceiling Plain d = refl
kind_less Ceiling Grouped d = refl
kind_less Plain Sizes d = refl
kind_less Plain Initial d = refl
kind_less Plain Final d = refl
kind_less Plain Ceiling d = refl
kind_less Plain Plain d = refl
kind_less Plain Grouped d = refl
kind_less Grouped Sizes d = refl
kind_less Grouped Initial d = refl
kind_less Grouped Final d = refl
kind_less Grouped Ceiling d = refl
kind_less Grouped Plain d = refl
kind_less Grouped Grouped d = refl
