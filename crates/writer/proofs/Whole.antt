-- The whole file, record kind by record kind: what is still to be put after each, and its room.
use mathlib.Core.Path.{◌≡◌, refl, sym}
use mathlib.Core.List.{List, [], ◌∷◌, ◌++◌, append-nil}
use Prim.Native.Nat.{ℕ, ◌+◌, ◌≤◌}
use lib.ListN.{length}
use Rattle.model.specs.declared.Head.{Head}
use Rattle.model.specs.Files.{sizes_body, numbers, location_records, edge_records, file_with, rule_bytes}
use Rattle.model.specs.Layout.{edges_in, locations_in, rule_in}
use Rattle.writer.specs.declared.output.Output.{Output}
use Rattle.writer.specs.Writing.{sizes_length, Put, Fits}
use Rattle.writer.proofs.Putting.{Putting, putting_start, putting_room, putting_next, putting_end}

module _ (h : Head) (t : List ℕ) where
  abbrev pub sizes : List ℕ
  sizes = numbers (sizes_body ∷ 1 ∷ h.locations ∷ h.symbols ∷ h.clocks ∷ [])

  abbrev pub initial : List ℕ
  initial = location_records 2 (locations_in h.starts)

  abbrev pub final : List ℕ
  final = location_records 3 (locations_in h.ends)

  abbrev pub edges : List ℕ
  edges = edge_records (edges_in h.count t)

  whole_is : sizes ++ (initial ++ (final ++ edges)) ≡ rule_bytes (rule_in h t)
  unfolding file_with rule_bytes rule_in
  whole_is = refl

  module _ {out : Output} where
    begun : Fits h t out → Putting (rule_bytes (rule_in h t)) (sizes ++ (initial ++ (final ++ edges))) out out
    begun fits = putting_start whole_is fits.room

    pub sizes_room : Fits h t out → out.at + sizes_length ≤ length out.bytes.now
    sizes_room fits = putting_room (begun fits) sizes (initial ++ (final ++ edges)) refl

    module _ {now : Output} where
      pub sizes_done :
          Fits h t out → Put sizes out now → Putting (rule_bytes (rule_in h t)) (initial ++ (final ++ edges)) out now
      sizes_done fits p = putting_next (begun fits) sizes (initial ++ (final ++ edges)) refl p

      module _ {then : Output} where
        pub initial_done :
            Putting (rule_bytes (rule_in h t)) (initial ++ (final ++ edges)) out now → Put initial now then
            → Putting (rule_bytes (rule_in h t)) (final ++ edges) out then
        initial_done inv p = putting_next inv initial (final ++ edges) refl p

        pub final_done :
            Putting (rule_bytes (rule_in h t)) (final ++ edges) out now → Put final now then
            → Putting (rule_bytes (rule_in h t)) edges out then
        final_done inv p = putting_next inv final edges refl p

        pub edges_done :
            Putting (rule_bytes (rule_in h t)) edges out now → Put edges now then
            → Put (rule_bytes (rule_in h t)) out then
        edges_done inv p = putting_end (putting_next inv edges [] (sym (append-nil edges)) p) refl
