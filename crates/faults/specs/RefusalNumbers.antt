-- The numbers and the names of refusals.
use Rattle.std.specs.Prelude.{ℕ, Bool, nat_eq, List, [], ◌∷◌, map, codes}
use Rattle.std.specs.List.{list_any}

-- the number and the name of each refusal, ascending
unfoldable pub refusals : List (ℕ × List ℕ)
refusals =
    (1, codes "OutOfMemory")
    ∷ (11, codes "NotTwelveDigits")
    ∷ (12, codes "CheckDigit")
    ∷ (13, codes "BadPlace")
    ∷ (14, codes "BadClass")
    ∷ (15, codes "BadCompany")
    ∷ (16, codes "BadOrderId")
    ∷ (17, codes "BadMoment")
    ∷ (18, codes "MomentOutOfRange")
    ∷ (19, codes "WrongKind")
    ∷ (20, codes "OutOfRange")
    ∷ (21, codes "NotJson")
    ∷ (22, codes "NotAnObject")
    ∷ (23, codes "UnknownType")
    ∷ (24, codes "MissingField")
    ∷ (25, codes "BadField")
    ∷ (31, codes "Earlier")
    ∷ (32, codes "WrongStatus")
    ∷ (33, codes "WrongPlace")
    ∷ (41, codes "BadRow")
    ∷ (42, codes "TooManyPlaces")
    ∷ (43, codes "TooManyLines")
    ∷ (45, codes "BadWorkerCount")
    ∷ (46, codes "NoThread")
    ∷ (47, codes "BadNetworkCount")
    ∷ (51, codes "DuplicateWagon")
    ∷ (52, codes "DuplicateOrder")
    ∷ (53, codes "TooLarge")
    ∷ (54, codes "UnevenRows")
    ∷ (61, codes "WrongLengths")
    ∷ (62, codes "NotAllowed")
    ∷ (63, codes "UsedTwice")
    ∷ (64, codes "PriceGap")
    ∷ (65, codes "OverPenalty")
    ∷ (66, codes "SumsDiffer")
    ∷ (71, codes "IdReused")
    ∷ (72, codes "BookFull")
    ∷ (73, codes "UnknownWagon")
    ∷ (74, codes "OrderKnown")
    ∷ (75, codes "TooManyOpen")
    ∷ (76, codes "UnknownOrder")
    ∷ (77, codes "OrderClosed")
    ∷ (78, codes "BadRosterRow")
    ∷ (79, codes "UnknownNetwork")
    ∷ (80, codes "SameNetwork")
    ∷ (81, codes "NotKept")
    ∷ (82, codes "WagonChanged")
    ∷ (83, codes "OrderChanged")
    ∷ (84, codes "NotInProblem")
    ∷ (85, codes "BadCheckpointLine")
    ∷ (86, codes "OneSidedPromise")
    ∷ (87, codes "OrderFull")
    ∷ (88, codes "CheckpointCut")
    ∷ (89, codes "WagonPromised")
    ∷ (91, codes "TooManyLines")
    ∷ (92, codes "LineTooLong")
    ∷ (93, codes "ReadFailed")
    ∷ (94, codes "WriteFailed")
    ∷ (95, codes "SeatsMissing")
    ∷ (96, codes "ReceiptLost")
    ∷ []

-- all numbers that a refusal can have, ascending
abbrev pub refusal_numbers : List ℕ
refusal_numbers = map (λ (r : ℕ × List ℕ). r.0) refusals

-- whether a number is one of them
abbrev pub is_refusal_number : ℕ → Bool
is_refusal_number number = list_any (nat_eq number) refusal_numbers
