-- Refusals: document 01's numbers of the reasons; a refusal where there is one file: its reason, file 0, the place.
use Rattle.std.specs.Prelude.{ℕ, Result, Ok, Err, ⊤}
use Rattle.types.specs.declared.refusal.Refusal.{Refusal}
use Rattle.types.specs.declared.refusal.Reason.{Reason}

abbrev pub number_of : Reason → ℕ
number_of Reason.TooLarge = 1
number_of Reason.TooSmall = 2
number_of Reason.Signature = 3
number_of Reason.Version = 4
number_of Reason.HashVersion = 5
number_of Reason.IndexCut = 6
number_of Reason.IndexId = 7
number_of Reason.IndexRepeated = 8
number_of Reason.IndexOffset = 9
number_of Reason.BaseSize = 10
number_of Reason.BaseCount = 11
number_of Reason.CdatMissing = 12
number_of Reason.CdatSize = 13
number_of Reason.OidfMissing = 14
number_of Reason.OidfSize = 15
number_of Reason.OidlMissing = 16
number_of Reason.OidlSize = 17
number_of Reason.TrailerSize = 18
number_of Reason.BaseMissing = 19
number_of Reason.FanFalls = 20
number_of Reason.OidlCount = 21
number_of Reason.CdatCount = 22
number_of Reason.ListSize = 30
number_of Reason.ListRecord = 31
number_of Reason.ListSum = 32
number_of Reason.Position = 40
number_of Reason.IdWidth = 41
number_of Reason.SecondAlone = 50
number_of Reason.FirstEdge = 51
number_of Reason.EdgeMissing = 52
number_of Reason.EdgeOut = 53
number_of Reason.EdgeCut = 54
number_of Reason.ListFull = 55
number_of Reason.Bases = 60
number_of Reason.BaseId = 61
number_of Reason.Checksum = 62
number_of Reason.Name = 63
number_of Reason.IdZero = 64
number_of Reason.IdOrder = 65
number_of Reason.IdBucket = 66
number_of Reason.TreeZero = 67
number_of Reason.ParentOut = 68
number_of Reason.Generation = 69

abbrev pub refusal : Reason → ℕ → Refusal
refusal e place = record { reason = e; file = 0; place = place }

-- a rule's answer, its refusal at a place
abbrev pub refused_at : {A : Type 0} → Result A Reason → ℕ → Result A Refusal
refused_at (Ok x) place = Ok x
refused_at (Err e) place = Err (refusal e place)

-- document 01's number of what a rule says; 0 is no refusal
abbrev pub number_in : Result ⊤ Reason → ℕ
number_in (Ok u) = 0
number_in (Err e) = number_of e
