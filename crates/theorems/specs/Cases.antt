-- Small bodies, by their facts, and what is derived of each.
use Rattle.std.specs.Prelude.{◌≡◌, ℕ, ◌↔◌, List, [], ◌∷◌, length}
use Rattle.rows.specs.declared.row.Row.{Row}
use Rattle.rows.specs.Relations.{loan_issued_at, universal_region, cfg_edge, loan_killed_at, subset_base, loan_invalidated_at, var_used_at, use_of_var_derefs_origin, child_path, path_moved_at_base, path_accessed_at_base, known_placeholder_subset, placeholder, move_error, var_live_on_entry, origin_live_on_entry, subset, origin_contains_loan_on_entry, loan_live_at, errors, subset_errors, origin_contains_loan_anywhere, potential_errors, potential_subset_errors}
use Rattle.datalog.specs.Contents.{Among}
use Rattle.output.specs.Completion.{Completed, Missing}
use Rattle.theorems.specs.Numbers.{Lists, Distinct}

-- of relation k, the completion has exactly these rows
abbrev pub Tells : List Row → ℕ → List Row → Type 0
Tells facts k rows = (r : Row) → r.relation ≡ k → (Completed facts r ↔ Among rows r)

-- exactly these rows are derived, n in number
abbrev pub Derives : List Row → List Row → ℕ → Type 0
Derives facts rows n = Lists rows (Missing facts) × Distinct rows × (length rows ≡ n)

-- A loan goes into an origin that is live where the loan is invalidated.
abbrev pub used_loan : List Row
used_loan =
    loan_issued_at 0 0 0 ∷
    cfg_edge 0 1 ∷
    cfg_edge 1 2 ∷
    subset_base 0 1 0 ∷
    subset_base 1 2 0 ∷
    loan_invalidated_at 2 0 ∷
    var_used_at 0 2 ∷
    use_of_var_derefs_origin 0 2 ∷
    []

abbrev pub used_loan_derived : List Row
used_loan_derived =
    var_live_on_entry 0 0 ∷
    var_live_on_entry 0 1 ∷
    var_live_on_entry 0 2 ∷
    origin_live_on_entry 2 0 ∷
    origin_live_on_entry 2 1 ∷
    origin_live_on_entry 2 2 ∷
    subset 0 1 0 ∷
    subset 0 2 0 ∷
    subset 1 2 0 ∷
    origin_contains_loan_on_entry 0 0 0 ∷
    origin_contains_loan_on_entry 1 0 0 ∷
    origin_contains_loan_on_entry 2 0 0 ∷
    origin_contains_loan_on_entry 2 0 1 ∷
    origin_contains_loan_on_entry 2 0 2 ∷
    loan_live_at 0 0 ∷
    loan_live_at 0 1 ∷
    loan_live_at 0 2 ∷
    errors 0 2 ∷
    origin_contains_loan_anywhere 0 0 ∷
    origin_contains_loan_anywhere 1 0 ∷
    origin_contains_loan_anywhere 2 0 ∷
    potential_errors 0 2 ∷
    []

abbrev pub UsedLoan : Type 0
UsedLoan =
    Derives used_loan used_loan_derived 22
    × Tells used_loan 35 (errors 0 2 ∷ [])
    × Tells used_loan 38 (potential_errors 0 2 ∷ [])

-- The same with the loan killed where it was issued: it spreads there, and goes no further.
abbrev pub killed_loan : List Row
killed_loan = loan_killed_at 0 0 ∷ used_loan

abbrev pub killed_loan_derived : List Row
killed_loan_derived =
    var_live_on_entry 0 0 ∷
    var_live_on_entry 0 1 ∷
    var_live_on_entry 0 2 ∷
    origin_live_on_entry 2 0 ∷
    origin_live_on_entry 2 1 ∷
    origin_live_on_entry 2 2 ∷
    subset 0 1 0 ∷
    subset 0 2 0 ∷
    subset 1 2 0 ∷
    origin_contains_loan_on_entry 0 0 0 ∷
    origin_contains_loan_on_entry 1 0 0 ∷
    origin_contains_loan_on_entry 2 0 0 ∷
    loan_live_at 0 0 ∷
    origin_contains_loan_anywhere 0 0 ∷
    origin_contains_loan_anywhere 1 0 ∷
    origin_contains_loan_anywhere 2 0 ∷
    potential_errors 0 2 ∷
    []

abbrev pub KilledLoan : Type 0
KilledLoan =
    Derives killed_loan killed_loan_derived 17
    × Tells killed_loan 35 []
    × Tells killed_loan 38 (potential_errors 0 2 ∷ [])

-- A path is moved, and accessed at the next point; and at a point that no edge leads to.
abbrev pub MovedThenAccessed : Type 0
MovedThenAccessed = Tells (path_moved_at_base 0 0 ∷ cfg_edge 0 1 ∷ path_accessed_at_base 0 1 ∷ []) 26 (move_error 0 1 ∷ [])

abbrev pub MovedNotReached : Type 0
MovedNotReached = Tells (path_moved_at_base 0 0 ∷ path_accessed_at_base 0 1 ∷ []) 26 []

-- A child is moved and its parent accessed: the error is the child's alone.
abbrev pub ChildMoved : Type 0
ChildMoved =
    Tells (child_path 1 0 ∷ path_moved_at_base 1 0 ∷ cfg_edge 0 1 ∷ path_accessed_at_base 0 1 ∷ []) 26 (move_error 1 1 ∷ [])

-- Three universal regions, each with a placeholder loan of its own, of which 0 is known to be a subset of 1 and 1 of 2.
abbrev pub three_regions : List Row
three_regions =
    universal_region 0 ∷
    universal_region 1 ∷
    universal_region 2 ∷
    placeholder 0 0 ∷
    placeholder 1 1 ∷
    placeholder 2 2 ∷
    known_placeholder_subset 0 1 ∷
    known_placeholder_subset 1 2 ∷
    []

-- A subset that follows from what is known is no error.
abbrev pub KnownSubset : Type 0
KnownSubset = Tells (subset_base 0 2 0 ∷ three_regions) 36 [] × Tells (subset_base 0 2 0 ∷ three_regions) 39 []

-- Its converse is.
abbrev pub UnknownSubset : Type 0
UnknownSubset =
    Tells (subset_base 2 0 0 ∷ three_regions) 36 (subset_errors 2 0 0 ∷ [])
    × Tells (subset_base 2 0 0 ∷ three_regions) 39 (potential_subset_errors 2 0 ∷ [])

-- Without a placeholder loan of its own, the error of a region is told by the naive analysis alone.
abbrev pub two_regions : List Row
two_regions = universal_region 0 ∷ universal_region 1 ∷ subset_base 0 1 0 ∷ []

abbrev pub NoPlaceholder : Type 0
NoPlaceholder = Tells two_regions 36 (subset_errors 0 1 0 ∷ []) × Tells two_regions 39 []

abbrev pub shared_placeholder : List Row
shared_placeholder = placeholder 0 5 ∷ placeholder 1 5 ∷ two_regions

abbrev pub SharedPlaceholder : Type 0
SharedPlaceholder = Tells shared_placeholder 36 (subset_errors 0 1 0 ∷ []) × Tells shared_placeholder 39 []

-- Two origins that are subsets of each other: no row has equal origins.
abbrev pub MutualSubset : Type 0
MutualSubset = Tells (subset_base 0 1 0 ∷ subset_base 1 0 0 ∷ []) 32 (subset 0 1 0 ∷ subset 1 0 0 ∷ [])

-- A universal region is live at the ends of edges, and at no other points.
abbrev pub RegionNowhere : Type 0
RegionNowhere = Tells (universal_region 0 ∷ []) 29 []

abbrev pub RegionLive : Type 0
RegionLive = Tells (universal_region 0 ∷ cfg_edge 0 1 ∷ []) 29 (origin_live_on_entry 0 0 ∷ origin_live_on_entry 0 1 ∷ [])
