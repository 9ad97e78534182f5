-- The cuts of a segment by another object are what the laws of pieces ask for; and the same in points.
use mathlib.Core.Path.{◌≡◌, refl, sym, ap, subst}
use mathlib.Core.Logic.{◌⊎◌, inl, inr, ⊎_elim}
use mathlib.Core.Bool.{Bool, true, false, not}
use mathlib.Core.List.{List, [], ◌∷◌, ◌++◌}
use lib.Dec.{T, T_not}
use Rattle.whole.specs.Count.{◌∈◌, here, there}
use Rattle.whole.proofs.Logic.{and_left, in_nil, in_cons, in_left, in_right, in_append}
use Rattle.plane.specs.declared.Point.{Point}
use Rattle.plane.specs.declared.Segment.{Segment}
use Rattle.plane.specs.Plane.{grid, on, is_end, cross, end_within}
use Rattle.plane.proofs.OnSegment.{Ordered, along_on}
use Rattle.split_pieces.specs.Pieces.{EndPoint}
use Rattle.split_pieces.proofs.Unchanged.{AllOrdered}
use Rattle.split_pieces.proofs.Pair.{CutBy, end_on_it}
use Rattle.split_crossing.specs.declared.Crossing.{Crossing}
use Rattle.split_crossing.specs.declared.Crossing.TheVariants.{Apart, OffGrid, At}
use Rattle.split_crossing.specs.Crossing.{crossing_of}
use Rattle.split_crossing.specs.Cuts.{point_if, crossing_point, cuts_by, cuts, CutAt}
use Rattle.split_crossing.proofs.Crossings.{crossing_means, crossing_at}

-- ---- members

point_if_in : (b : Bool) (p : Point) → T b → p ∈ point_if b p
point_if_in true p h = here
point_if_in false p h = elim h [ ]

in_point_if : (b : Bool) (p c : Point) → c ∈ point_if b p → (c ≡ p) × T b
in_point_if true p c m = ⊎_elim (λ e. (e, tt)) (λ k. absurd (in_nil k)) (in_cons m)
in_point_if false p c m = absurd (in_nil m)

in_crossing : (r : Crossing) (c : Point) → c ∈ crossing_point r → r ≡ At c
in_crossing Apart c m = absurd (in_nil m)
in_crossing OffGrid c m = absurd (in_nil m)
in_crossing (At d) c m = ⊎_elim (λ e. ap At (sym e)) (λ k. absurd (in_nil k)) (in_cons m)

-- a point of `cuts_by`: an end of t, or where they cross
cut_by : (s t : Segment) (c : Point) → c ∈ cuts_by s t → (EndPoint t c × T (end_within s c)) ⊎ (crossing_of s t ≡ At c)
unfolding cuts_by
cut_by s t c m = ⊎_elim (λ k. let w = in_point_if (end_within s t.left) t.left c k in inl (inl w.0, subst (λ x. T (end_within s x)) (sym w.0) w.1)) rest (in_append (point_if (end_within s t.left) t.left) m)
  where
    rest : c ∈ (point_if (end_within s t.right) t.right ++ crossing_point (crossing_of s t)) → (EndPoint t c × T (end_within s c)) ⊎ (crossing_of s t ≡ At c)
    rest k =
        ⊎_elim (λ k. let w = in_point_if (end_within s t.right) t.right c k in inl (inr w.0, subst (λ x. T (end_within s x)) (sym w.0) w.1))
        (λ k. inr (in_crossing (crossing_of s t) c k)) (in_append (point_if (end_within s t.right) t.right) k)

end_cut : (s t : Segment) (c : Point) → EndPoint t c → T (end_within s c) → c ∈ cuts_by s t
unfolding cuts_by
end_cut s t c (inl e) h =
    in_left (point_if (end_within s t.right) t.right ++ crossing_point (crossing_of s t))
    (subst (λ x. x ∈ point_if (end_within s t.left) t.left) (sym e) (point_if_in (end_within s t.left) t.left (subst (λ x. T (end_within s x)) e h)))
end_cut s t c (inr e) h =
    in_right (point_if (end_within s t.left) t.left)
    (in_left (crossing_point (crossing_of s t))
    (subst (λ x. x ∈ point_if (end_within s t.right) t.right) (sym e) (point_if_in (end_within s t.right) t.right (subst (λ x. T (end_within s x)) e h))))

crossing_cut : (s t : Segment) (c : Point) → crossing_of s t ≡ At c → c ∈ cuts_by s t
unfolding cuts_by
crossing_cut s t c e =
    in_right (point_if (end_within s t.left) t.left)
    (in_right (point_if (end_within s t.right) t.right) (subst (λ r. c ∈ crossing_point r) (sym e) here))

-- and of `cuts`
cuts_in : (G : List Segment) (s t : Segment) (c : Point) → t ∈ G → c ∈ cuts_by s t → c ∈ cuts G s
cuts_in [] s t c m k = elim m [ ]
cuts_in (u ∷ G) s t c here k = in_left (cuts G s) k
cuts_in (u ∷ G) s t c (there m) k = in_right (cuts_by s u) (cuts_in G s t c m k)

in_cuts : (G : List Segment) (s : Segment) (c : Point) → c ∈ cuts G s → (t : Segment) × (t ∈ G) × (c ∈ cuts_by s t)
in_cuts [] s c m = absurd (in_nil m)
in_cuts (u ∷ G) s c m = ⊎_elim (λ k. (u, here, k)) (λ k. let w = in_cuts G s c k in (w.0, there w.1, w.2)) (in_append (cuts_by s u) m)

-- ---- in points

within_on : (s : Segment) (c : Point) → T (end_within s c) → T (on s (grid c))
unfolding end_within
within_on s c h = and_left (on s (grid c)) (not (is_end s (grid c))) h

module _ (G : List Segment) (ord_g : AllOrdered G) (s : Segment) (os : Ordered s) where
  pub cut_at : (c : Point) → c ∈ cuts G s → CutAt G s c
  cut_at c m = let w = in_cuts G s c m in by w.0 w.1 (cut_by s w.0 c w.2)
    where
      by : (t : Segment) → t ∈ G → (EndPoint t c × T (end_within s c)) ⊎ (crossing_of s t ≡ At c) → CutAt G s c
      by t k (inl e) = record { by = t; of_other = k; inside = e.1; met = along_on t (grid c) (ord_g t k) (end_on_it t (ord_g t k) c e.0); how = inl e.0 }
      by t k (inr e) =
          let w = (crossing_means s t os (ord_g t k)).at c e in
          record { by = t; of_other = k; inside = w.1; met = within_on t c w.2; how = inr w.0 }

  pub at_cut : (c : Point) → CutAt G s c → c ∈ cuts G s
  at_cut c h = cuts_in G s h.by c h.of_other (by h.how)
    where
      by : EndPoint h.by c ⊎ T (cross s h.by) → c ∈ cuts_by s h.by
      by (inl e) = end_cut s h.by c e h.inside
      by (inr x) = crossing_cut s h.by c (crossing_at s h.by os (ord_g h.by h.of_other) x c (within_on s c h.inside) h.met)

-- ---- what the laws of pieces ask

-- "19 .. crosses at a point off the grid": no two do
abbrev pub OnGrid : List Segment → List Segment → Type 0
OnGrid F G = (s t : Segment) → s ∈ F → t ∈ G → crossing_of s t ≡ OffGrid → ⊥

pub cuts_meet : (F G : List Segment) → AllOrdered F → AllOrdered G → OnGrid F G → CutBy F G (cuts G)
cuts_meet F G ord_f ord_g grids =
    record {
      within = λ s m c k. (cut_at G ord_g s (ord_f s m) c k).inside;
      ends = λ s g m n e at h. cuts_in G s g e n (end_cut s g e at h);
      crossings = crossings;
      only = λ s m c k. let w = cut_at G ord_g s (ord_f s m) c k in (w.by, w.of_other, ⊎_elim inl (λ x. inr (x, w.met)) w.how);
    }
  where
    crossings : (s g : Segment) → s ∈ F → g ∈ G → T (cross s g) → (c : Point) × (c ∈ cuts G s) × T (on g (grid c))
    crossings s g m n x = go (crossing_of s g) refl
      where
        go : (r : Crossing) → crossing_of s g ≡ r → (c : Point) × (c ∈ cuts G s) × T (on g (grid c))
        go Apart e = absurd (T_not (cross s g) ((crossing_means s g (ord_f s m) (ord_g g n)).apart e) x)
        go OffGrid e = absurd (grids s g m n e)
        go (At c) e = (c, cuts_in G s g c n (crossing_cut s g c e), within_on g c ((crossing_means s g (ord_f s m) (ord_g g n)).at c e).2)
