-- An edge with groups has whole numbers past its fields where its body has whole numbers.
use Rattle.std.proofs.Common.{◌≡◌, ◌&&◌, ℕ, ◌-◌, ◌%◌, ◌≤◌, arith}
use lib.Dec.{eqb, leb}
use borrow.Author.Tests.{leb-true}
use Rattle.model.specs.Basics.{within}
use Rattle.model.specs.Files.{fields_body, number_bytes, most_grouped_body, grouped_body}
use Rattle.model.proofs.Logic.{by_test}

pub grouped_is :
    (n : ℕ)
    → (within fields_body most_grouped_body n && eqb ((n - fields_body) % number_bytes) 0) ≡ grouped_body n
grouped_is n =
    by_test (leb fields_body n)
    (λ e. let least : fields_body ≤ n = leb-true fields_body n e in
    let same : (n - fields_body) % number_bytes ≡ n % number_bytes = omega arith in rw same) (λ e. rw e)
