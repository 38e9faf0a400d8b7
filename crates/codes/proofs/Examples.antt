-- Powers, codes and sizes by computation: each bound on both sides.
use mathlib.Core.Path.{◌≡◌, refl}
use mathlib.Core.Bool.{Bool, true, false}
use mathlib.Core.List.{List, [], ◌∷◌}
use Rattle.codes.specs.declared.Scale.{Scale}
use Rattle.codes.specs.Powers.{powers_of}
use Rattle.codes.specs.Codes.{scale_of, small_scale, packed, unpacked}
use Rattle.codes.specs.Claims.{sizes_fit}

-- one clock, three, and four; cm 30, 14 and 0
powers_of_32 : powers_of 30 1 ≡ 1 ∷ 32 ∷ 0 ∷ 0 ∷ 0 ∷ []
unfolding powers_of
powers_of_32 = refl

powers_of_16 : powers_of 14 3 ≡ 1 ∷ 16 ∷ 256 ∷ 4096 ∷ 0 ∷ []
unfolding powers_of
powers_of_16 = refl

powers_of_2 : powers_of 0 4 ≡ 1 ∷ 2 ∷ 4 ∷ 8 ∷ 16 ∷ []
unfolding powers_of
powers_of_2 = refl

-- cm 1, two clocks: a location counts 9 times
of_nine : Scale
of_nine = record { clocks = 2; top = 1; weight = 9; powers = 1 ∷ 3 ∷ 9 ∷ 0 ∷ 0 ∷ [] }

nothing : Scale
nothing = record { clocks = 0; top = 0; weight = 0; powers = 0 ∷ 0 ∷ 0 ∷ 0 ∷ 0 ∷ [] }

scale_of_nine : scale_of 1 2 ≡ of_nine
unfolding powers_of of_nine
scale_of_nine = refl

-- cm and K at the end of their ranges, and one past each; no scale is all zero
largest_scale : small_scale 30 4 ≡ scale_of 30 4
largest_scale = refl

top_past : small_scale 31 1 ≡ nothing
unfolding nothing
top_past = refl

clocks_past : small_scale 0 5 ≡ nothing
unfolding nothing
clocks_past = refl

-- location 3, bases 2 and 1: 27 + 2 + 3; bases past the clocks are not counted, and come back as zero
made : packed (scale_of 1 2) 3 (2 ∷ 1 ∷ 2 ∷ 2 ∷ []) ≡ 32
unfolding powers_of
made = refl

taken_apart : unpacked (scale_of 1 2) 32 ≡ record { location = 3; bases = 2 ∷ 1 ∷ 0 ∷ 0 ∷ [] }
unfolding powers_of
taken_apart = refl

-- the highest code of the largest N: 16 locations, three clocks, cm 14
highest : packed (scale_of 14 3) 15 (15 ∷ 15 ∷ 15 ∷ 0 ∷ []) ≡ 65535
unfolding powers_of
highest = refl

highest_apart : unpacked (scale_of 14 3) 65535 ≡ record { location = 15; bases = 15 ∷ 15 ∷ 15 ∷ 0 ∷ [] }
unfolding powers_of
highest_apart = refl

-- four clocks, each base another
four : packed (scale_of 3 4) 2 (1 ∷ 2 ∷ 3 ∷ 4 ∷ []) ≡ 1836
unfolding powers_of
four = refl

four_apart : unpacked (scale_of 3 4) 1836 ≡ record { location = 2; bases = 1 ∷ 2 ∷ 3 ∷ 4 ∷ [] }
unfolding powers_of
four_apart = refl

-- sizes that fit, and those next to them that do not
fits : List Bool
fits =
    sizes_fit 1 1 0
    ∷ sizes_fit 32 1 30
    ∷ sizes_fit 1 4 0
    ∷ sizes_fit 16 3 14
    ∷ sizes_fit 1 4 14
    ∷ sizes_fit 0 1 0
    ∷ sizes_fit 33 1 0
    ∷ sizes_fit 1 0 0
    ∷ sizes_fit 1 5 0
    ∷ sizes_fit 1 1 31
    ∷ sizes_fit 17 3 14
    ∷ sizes_fit 2 4 14
    ∷ sizes_fit 10 4 7
    ∷ []

sizes_fit_lem :
    fits
    ≡ true
    ∷ true
    ∷ true
    ∷ true
    ∷ true
    ∷ false
    ∷ false
    ∷ false
    ∷ false
    ∷ false
    ∷ false
    ∷ false
    ∷ false
    ∷ []
unfolding fits
sizes_fit_lem = refl
