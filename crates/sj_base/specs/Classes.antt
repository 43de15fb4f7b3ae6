-- The four classes of errors: each kind is in one of them.
use Rattle.sj_base.specs.declared.error.ErrorType.{ErrorType}
use Rattle.sj_base.specs.declared.error.ErrorType.TheVariants.{Unexpected, InputTooLarge, InsufficientPadding, BadKeyType, ExpectedArray, ExpectedArrayComma, ExpectedBoolean, ExpectedEnum, ExpectedFloat, ExpectedInteger, ExpectedMap, ExpectedObjectColon, ExpectedMapComma, ExpectedMapEnd, ExpectedNull, ExpectedTrue, ExpectedFalse, ExpectedNumber, ExpectedSigned, ExpectedString, ExpectedUnsigned, InternalError, InvalidEscape, InvalidExponent, InvalidNumber, InvalidUtf8, InvalidUnicodeEscape, InvalidUnicodeCodepoint, KeyMustBeAString, NoStructure, Parser, Eof, Serde, Syntax, TrailingData, UnexpectedCharacter, UnterminatedString, ExpectedArrayContent, ExpectedObjectContent, ExpectedObjectKey, OutOfMemory}

pub data ErrorClass : Type 0 where
  io_class : ErrorClass  -- of a read or a write: no kind
  eof_class : ErrorClass
  syntax_class : ErrorClass  -- no JSON text, or one that nests too deep
  data_class : ErrorClass  -- all others

abbrev pub class_of : ErrorType → ErrorClass
class_of Unexpected = data_class
class_of InputTooLarge = data_class
class_of InsufficientPadding = data_class
class_of BadKeyType = data_class
class_of ExpectedArray = data_class
class_of ExpectedArrayComma = syntax_class
class_of ExpectedBoolean = data_class
class_of ExpectedEnum = data_class
class_of ExpectedFloat = data_class
class_of ExpectedInteger = data_class
class_of ExpectedMap = data_class
class_of ExpectedObjectColon = syntax_class
class_of ExpectedMapComma = syntax_class
class_of ExpectedMapEnd = data_class
class_of ExpectedNull = syntax_class
class_of ExpectedTrue = syntax_class
class_of ExpectedFalse = syntax_class
class_of ExpectedNumber = data_class
class_of ExpectedSigned = data_class
class_of ExpectedString = data_class
class_of ExpectedUnsigned = data_class
class_of InternalError = syntax_class
class_of InvalidEscape = syntax_class
class_of InvalidExponent = data_class
class_of InvalidNumber = syntax_class
class_of InvalidUtf8 = syntax_class
class_of InvalidUnicodeEscape = syntax_class
class_of InvalidUnicodeCodepoint = syntax_class
class_of KeyMustBeAString = data_class
class_of NoStructure = data_class
class_of Parser = data_class
class_of Eof = eof_class
class_of Serde = data_class
class_of Syntax = syntax_class
class_of TrailingData = syntax_class
class_of UnexpectedCharacter = data_class
class_of UnterminatedString = data_class
class_of ExpectedArrayContent = syntax_class
class_of ExpectedObjectContent = syntax_class
class_of ExpectedObjectKey = syntax_class
class_of OutOfMemory = data_class
