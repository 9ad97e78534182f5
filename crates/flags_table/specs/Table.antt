-- Which meetings and classes make each flag, for each pair of types, bit 0 first, with the flag's name in document 01 behind it. m are the meetings of the
-- two objects, c the classes of the object whose flags they are.
use Rattle.std.specs.Prelude.{Bool, ◌||◌, List, [], ◌∷◌}
use Rattle.scene.specs.declared.Shape.{Shape}
use Rattle.scene.specs.declared.Shape.TheVariants.{Points, Line, Region}
use Rattle.flags_meetings.specs.declared.Meetings.{Meetings}
use Rattle.flags_classes.specs.declared.Classes.{Classes}

-- a point that is bound in F and none of G's, whatever its note
abbrev pub alone : Meetings → Bool
alone m = m.bound_outside || m.bound_inside || m.bound_on

-- a segment that is one of the other object's, and one that is none
abbrev pub shared : Classes → Bool
shared c = c.both_above || c.both_below || c.opposite

abbrev pub unshared : Classes → Bool
unshared c = c.above_outside || c.below_outside || c.above_inside || c.below_inside

abbrev pub flags_of_f_by : Shape → Shape → Meetings → Classes → List Bool
flags_of_f_by Points Points m c =
    alone m  -- poi_disjoint
    ∷ m.bound_bound  -- poi_shared
    ∷ []
flags_of_f_by Points Line m c =
    (m.bound_outside || m.bound_inside)  -- poi_disjoint
    ∷ (m.bound_on || m.bound_inner)  -- poi_on_interior
    ∷ m.bound_bound  -- poi_on_bound
    ∷ []
flags_of_f_by Points Region m c =
    m.bound_inside  -- poi_inside
    ∷ (m.bound_on || m.bound_bound || m.bound_inner)  -- poi_on_bound
    ∷ m.bound_outside  -- poi_outside
    ∷ []
flags_of_f_by Line Points m c = []
flags_of_f_by Line Line m c =
    shared c  -- seg_shared
    ∷ m.inner_inner  -- interior_poi_shared
    ∷ unshared c  -- seg_unshared
    ∷ m.bound_inner  -- bound_on_interior
    ∷ m.bound_bound  -- bound_shared
    ∷ alone m  -- bound_disjoint
    ∷ []
flags_of_f_by Line Region m c =
    (c.above_inside || c.below_inside)  -- seg_inside
    ∷ shared c  -- seg_shared
    ∷ (c.above_outside || c.below_outside)  -- seg_outside
    ∷ (m.inner_bound || m.inner_inner)  -- poi_shared
    ∷ m.bound_inside  -- bound_inside
    ∷ (m.bound_bound || m.bound_inner)  -- bound_shared
    ∷ m.bound_outside  -- bound_disjoint
    ∷ []
flags_of_f_by Region Points m c = []
flags_of_f_by Region Line m c = []
flags_of_f_by Region Region m c =
    c.above_outside  -- (0/1)
    ∷ c.below_outside  -- (1/0)
    ∷ c.above_inside  -- (1/2)
    ∷ c.below_inside  -- (2/1)
    ∷ c.both_above  -- (0/2)
    ∷ c.both_below  -- (2/0)
    ∷ c.opposite  -- (1/1)
    ∷ (m.bound_bound || m.bound_inner || m.inner_bound || m.inner_inner)  -- bound_poi_shared
    ∷ []

abbrev pub flags_of_g_by : Shape → Shape → Meetings → Classes → List Bool
flags_of_g_by Points Points m c =
    m.bound_of_g  -- poi_disjoint
    ∷ []
flags_of_g_by Points Line m c =
    m.bound_of_g  -- bound_poi_disjoint
    ∷ []
flags_of_g_by Points Region m c = []
flags_of_g_by Line Points m c = []
flags_of_g_by Line Line m c =
    unshared c  -- seg_unshared
    ∷ m.inner_bound  -- bound_on_interior
    ∷ m.bound_of_g  -- bound_disjoint
    ∷ []
flags_of_g_by Line Region m c =
    unshared c  -- seg_unshared
    ∷ []
flags_of_g_by Region Points m c = []
flags_of_g_by Region Line m c = []
flags_of_g_by Region Region m c =
    c.above_outside  -- (0/1)
    ∷ c.below_outside  -- (1/0)
    ∷ c.above_inside  -- (1/2)
    ∷ c.below_inside  -- (2/1)
    ∷ []
