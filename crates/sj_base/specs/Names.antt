-- How errors and their kinds are printed.
use Rattle.std.specs.Prelude.{ℕ, List, [], ◌++◌, codes, decimal, encode_utf8}
use Rattle.std.specs.Option.{option_map_or}
use Rattle.sj_base.specs.declared.error.Error.{Error}
use Rattle.sj_base.specs.declared.error.ErrorType.{ErrorType}
use Rattle.sj_base.specs.declared.error.ErrorType.TheVariants.{Unexpected, InputTooLarge, InsufficientPadding, BadKeyType, ExpectedArray, ExpectedArrayComma, ExpectedBoolean, ExpectedEnum, ExpectedFloat, ExpectedInteger, ExpectedMap, ExpectedObjectColon, ExpectedMapComma, ExpectedMapEnd, ExpectedNull, ExpectedTrue, ExpectedFalse, ExpectedNumber, ExpectedSigned, ExpectedString, ExpectedUnsigned, InternalError, InvalidEscape, InvalidExponent, InvalidNumber, InvalidUtf8, InvalidUnicodeEscape, InvalidUnicodeCodepoint, KeyMustBeAString, NoStructure, Parser, Eof, Serde, Syntax, TrailingData, UnexpectedCharacter, UnterminatedString, ExpectedArrayContent, ExpectedObjectContent, ExpectedObjectKey, OutOfMemory}

abbrev pub name_of : ErrorType → List ℕ
name_of Unexpected = codes "Unexpected"
name_of InputTooLarge = codes "InputTooLarge"
name_of InsufficientPadding = codes "InsufficientPadding"
name_of BadKeyType = codes "BadKeyType"
name_of ExpectedArray = codes "ExpectedArray"
name_of ExpectedArrayComma = codes "ExpectedArrayComma"
name_of ExpectedBoolean = codes "ExpectedBoolean"
name_of ExpectedEnum = codes "ExpectedEnum"
name_of ExpectedFloat = codes "ExpectedFloat"
name_of ExpectedInteger = codes "ExpectedInteger"
name_of ExpectedMap = codes "ExpectedMap"
name_of ExpectedObjectColon = codes "ExpectedObjectColon"
name_of ExpectedMapComma = codes "ExpectedMapComma"
name_of ExpectedMapEnd = codes "ExpectedMapEnd"
name_of ExpectedNull = codes "ExpectedNull"
name_of ExpectedTrue = codes "ExpectedTrue"
name_of ExpectedFalse = codes "ExpectedFalse"
name_of ExpectedNumber = codes "ExpectedNumber"
name_of ExpectedSigned = codes "ExpectedSigned"
name_of ExpectedString = codes "ExpectedString"
name_of ExpectedUnsigned = codes "ExpectedUnsigned"
name_of InternalError = codes "InternalError"
name_of InvalidEscape = codes "InvalidEscape"
name_of InvalidExponent = codes "InvalidExponent"
name_of InvalidNumber = codes "InvalidNumber"
name_of InvalidUtf8 = codes "InvalidUtf8"
name_of InvalidUnicodeEscape = codes "InvalidUnicodeEscape"
name_of InvalidUnicodeCodepoint = codes "InvalidUnicodeCodepoint"
name_of KeyMustBeAString = codes "KeyMustBeAString"
name_of NoStructure = codes "NoStructure"
name_of Parser = codes "Parser"
name_of Eof = codes "Eof"
name_of Serde = codes "Serde"
name_of Syntax = codes "Syntax"
name_of TrailingData = codes "TrailingData"
name_of UnexpectedCharacter = codes "UnexpectedCharacter"
name_of UnterminatedString = codes "UnterminatedString"
name_of ExpectedArrayContent = codes "ExpectedArrayContent"
name_of ExpectedObjectContent = codes "ExpectedObjectContent"
name_of ExpectedObjectKey = codes "ExpectedObjectKey"
name_of OutOfMemory = codes "OutOfMemory"

-- the kind, the index, and the character where there is one
abbrev pub error_text : Error → List ℕ
error_text e =
    name_of e.error ++ (codes " at character " ++ (decimal e.index ++ option_map_or (λ c. codes " ('" ++ (encode_utf8 c ++ codes "')")) e.character []))
