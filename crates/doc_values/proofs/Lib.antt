mod Numbers
mod Positions
mod Puts
mod RisingLists
mod TimeTexts
