-- Which code is that of a script.
use Rattle.lvish_syntax.specs.declared.script.Script.{Script}
use Rattle.lvish_code.specs.Compile as compile
use Rattle.lvish_task.specs.declared.script_code.ScriptCode.{ScriptCode}

-- the code of a script: its flat code is that of the script's statements
abbrev pub IsScriptCodeOf : Script → ScriptCode → Type 0
IsScriptCodeOf script c = compile.IsCodeOf script c.flat
