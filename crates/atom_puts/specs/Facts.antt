-- The row of a fact in atoms.
use Rattle.std.specs.Prelude.{ℕ}
use Rattle.rows.specs.declared.row.Row.{Row}
use Rattle.rows.specs.Relations.{loan_issued_at, universal_region, cfg_edge, loan_killed_at, subset_base, loan_invalidated_at, var_used_at, var_defined_at, var_dropped_at, use_of_var_derefs_origin, drop_of_var_derefs_origin, child_path, path_is_var, path_assigned_at_base, path_moved_at_base, path_accessed_at_base, known_placeholder_subset, placeholder}
use Rattle.atom_puts.specs.declared.fact.Fact.{Fact}
use Rattle.atom_puts.specs.declared.fact.Fact.TheVariants.{LoanIssuedAt, UniversalRegion, CfgEdge, LoanKilledAt, SubsetBase, LoanInvalidatedAt, VarUsedAt, VarDefinedAt, VarDroppedAt, UseOfVarDerefsOrigin, DropOfVarDerefsOrigin, ChildPath, PathIsVar, PathAssignedAtBase, PathMovedAtBase, PathAccessedAtBase, KnownPlaceholderSubset, Placeholder}

-- the relation, and the numbers of the atoms
abbrev pub row_of : {F O L P V H : Type 0} → (O → ℕ) → (L → ℕ) → (P → ℕ) → (V → ℕ) → (H → ℕ) → Fact F O L P V H → Row
row_of o l p v h (LoanIssuedAt origin loan point) = loan_issued_at (o origin) (l loan) (p point)
row_of o l p v h (UniversalRegion origin) = universal_region (o origin)
row_of o l p v h (CfgEdge point1 point2) = cfg_edge (p point1) (p point2)
row_of o l p v h (LoanKilledAt loan point) = loan_killed_at (l loan) (p point)
row_of o l p v h (SubsetBase origin1 origin2 point) = subset_base (o origin1) (o origin2) (p point)
row_of o l p v h (LoanInvalidatedAt point loan) = loan_invalidated_at (p point) (l loan)
row_of o l p v h (VarUsedAt var point) = var_used_at (v var) (p point)
row_of o l p v h (VarDefinedAt var point) = var_defined_at (v var) (p point)
row_of o l p v h (VarDroppedAt var point) = var_dropped_at (v var) (p point)
row_of o l p v h (UseOfVarDerefsOrigin var origin) = use_of_var_derefs_origin (v var) (o origin)
row_of o l p v h (DropOfVarDerefsOrigin var origin) = drop_of_var_derefs_origin (v var) (o origin)
row_of o l p v h (ChildPath child parent) = child_path (h child) (h parent)
row_of o l p v h (PathIsVar path var) = path_is_var (h path) (v var)
row_of o l p v h (PathAssignedAtBase path point) = path_assigned_at_base (h path) (p point)
row_of o l p v h (PathMovedAtBase path point) = path_moved_at_base (h path) (p point)
row_of o l p v h (PathAccessedAtBase path point) = path_accessed_at_base (h path) (p point)
row_of o l p v h (KnownPlaceholderSubset origin1 origin2) = known_placeholder_subset (o origin1) (o origin2)
row_of o l p v h (Placeholder origin loan) = placeholder (o origin) (l loan)
